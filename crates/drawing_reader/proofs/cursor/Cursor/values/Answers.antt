use Rattle.std.proofs.lemmas.Result.{err_from_is_err_and}
use Rattle.drawing_grammar.proofs.Moves.{moves, stops}
use Rattle.drawing_reader.proofs.cursor.Cursor.values.Goals as goal

pub returns-in_err-var-clause-reads : goal.returns-in_err-var-clause-reads
returns-in_err-var-clause-reads c =
    let p = err_from_is_err_and c.from_residual.result c.from_residual.ensures.1 in
    rw (p.1, p.2) (λ rest. c.in_err-var.ensures.reads _)

pub returns-in_err-mark-clause-reads : goal.returns-in_err-mark-clause-reads
returns-in_err-mark-clause-reads c =
    let p = err_from_is_err_and c.from_residual-in_err-mark.result c.from_residual-in_err-mark.ensures.1 in
    rw (p.1, p.2) (λ rest. stops (c.in_ok-var.ensures.reads _) (c.in_err-mark.ensures.reads _))

pub returns-in_err-first-clause-reads : goal.returns-in_err-first-clause-reads
returns-in_err-first-clause-reads c =
    let p = err_from_is_err_and c.from_residual-in_err-first.result c.from_residual-in_err-first.ensures.1 in
    rw (p.1, p.2) (λ rest. stops (moves (c.in_ok-var.ensures.reads _) (c.in_ok-mark.ensures.reads _)) (c.in_err-first.ensures.reads _))

pub returns-clause-reads : goal.returns-clause-reads
returns-clause-reads c = record {
  word = _;
  is = c.in_ok-var.ensures.text;
  leads = λ rest.
      moves (moves (c.in_ok-var.ensures.reads _) (c.in_ok-mark.ensures.reads _)) (c.in_ok-first.ensures.reads _);
}
