use Rattle.std.proofs.Common.{ℕ, List, ap, ◌∙◌}
use Rattle.std.proofs.lemmas.Result.{err_from_is_err_and}
use Rattle.std.specs.Prelude.{slice_range}
use Rattle.drawing_grammar.specs.Sketch as s
use Rattle.drawing_reader.specs.Reader.{at}
use Rattle.drawing_grammar.proofs.Moves.{moves, stops}
use Rattle.drawing_reader.proofs.cursor.Cursor.net.Goals as goal

pub returns-in_err-token-clause-reads : goal.returns-in_err-token-clause-reads
returns-in_err-token-clause-reads c = let p = err_from_is_err_and c.from_residual.result c.from_residual.ensures.1 in rw (p.1, p.2) (λ rest. c.in_err-token.ensures.reads _)

pub returns-in_err-range-clause-reads : goal.returns-in_err-range-clause-reads
returns-in_err-range-clause-reads c = let p = err_from_is_err_and c.from_residual-in_err-range.result c.from_residual-in_err-range.ensures.1 in
    rw (p.1, p.2) (λ rest. stops (c.in_ok-token.ensures.reads _) (c.in_err-range.ensures.reads _))

pub returns-clause-reads : goal.returns-clause-reads
returns-clause-reads c = record {
  token = at c.args.self.now c.in_ok-token.token;
  is = c.in_ok-name.ensures.is
      ∙ ap (λ (x : List ℕ). s.signal_named (slice_range x c.in_ok-token.token.start c.in_ok-token.token.end))
      c.in_ok-token.ensures.text;
  leads = λ rest. moves (c.in_ok-token.ensures.reads _) (c.in_ok-range.ensures.reads _);
}
