use Rattle.std.proofs.Common.{◌≡◌, ℕ, List, refl, ap, ◌∙◌}
use Rattle.std.proofs.lemmas.Result.{err_from_is_err_and}
use Rattle.drawing_grammar.specs.Grammar.{Need, part, group, fresh, mark, item, keyword}
use Rattle.drawing_grammar.specs.Grammar as g
use Rattle.drawing_grammar.specs.Sketch as s
use Rattle.drawing_reader.specs.Reader.{tokens_at, at}
use Rattle.drawing_grammar.specs.Front.{first_terminal}
use Rattle.drawing_grammar.proofs.Moves.{moves, stops}
use Rattle.drawing_reader.proofs.Cursors.{plainly, stuck}
use Rattle.drawing_grammar.proofs.None as none
use Rattle.std.specs.Prelude.{slice_range}
use Rattle.drawing_reader.proofs.cursor.Cursor.formal.Goals as goal

pub returns-then-not-starts-clause-reads : goal.returns-then-not-starts-clause-reads
returns-then-not-starts-clause-reads c = rw c.refused.ensures
    (λ rest. stuck g.Formal 0 c.args.self.now (none.no_formal (first_terminal (tokens_at c.args.self.now)) (c.starts.ensures.no (cc))) refl rest)

pub returns-in_err-range-clause-reads : goal.returns-in_err-range-clause-reads
returns-in_err-range-clause-reads c = let p = err_from_is_err_and c.from_residual-in_err-range.result c.from_residual-in_err-range.ensures.1 in
    rw (p.1, p.2) (λ rest. stops (plainly g.formal 0 c.args.self.now c.bump-token.new.self c.bump-token.result
    refl (c.starts.ensures.yes (cc)) c.bump-token.ensures.taken c.bump-token.ensures.operators rest) (c.in_err-range.ensures.reads _))

pub returns-clause-reads : goal.returns-clause-reads
returns-clause-reads c = let q : c.in_ok-name.name ≡ s.signal_of (at c.args.self.now c.bump-token.result) =
    c.in_ok-name.ensures.is ∙ ap (λ (x : List ℕ). s.signal_named (slice_range x c.bump-token.result.start c.bump-token.result.end))
    c.bump-token.ensures.text in
    rw (ap (λ n. n.base) q) (λ rest. moves (plainly g.formal 0 c.args.self.now c.bump-token.new.self c.bump-token.result
    refl (c.starts.ensures.yes (cc)) c.bump-token.ensures.taken c.bump-token.ensures.operators rest) (c.in_ok-range.ensures.reads _))
