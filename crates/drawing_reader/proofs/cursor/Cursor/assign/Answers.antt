use Rattle.std.proofs.Common.{◌≡◌, ℕ, List, refl, ap, ◌∙◌}
use Rattle.std.proofs.lemmas.Result.{err_from_is_err_and}
use Rattle.drawing_grammar.specs.Grammar.{Need, part, group, fresh, mark, item, keyword}
use Rattle.drawing_grammar.specs.Grammar as g
use Rattle.drawing_reader.specs.Reader.{tokens_at, at}
use Rattle.drawing_grammar.specs.Front.{first_terminal}
use Rattle.drawing_grammar.proofs.Moves.{moves, stops}
use Rattle.drawing_reader.proofs.Cursors.{plainly, stuck}
use Rattle.drawing_grammar.proofs.None as none
use Rattle.std.specs.Prelude.{slice_range}
use Rattle.drawing_reader.proofs.cursor.Cursor.assign.Goals as goal

pub returns-then-not-starts-clause-reads : goal.returns-then-not-starts-clause-reads
returns-then-not-starts-clause-reads c = rw c.refused.ensures
    (λ rest. stuck g.Assign 0 c.args.self.now (none.no_assign (first_terminal (tokens_at c.args.self.now)) (c.starts.ensures.no (cc))) refl rest)

pub returns-in_err-mark-clause-reads : goal.returns-in_err-mark-clause-reads
returns-in_err-mark-clause-reads c = let p = err_from_is_err_and c.from_residual-in_err-mark.result c.from_residual-in_err-mark.ensures.1 in
    rw (p.1, p.2) (λ rest. stops (plainly g.assign 0 c.args.self.now c.bump-token.new.self c.bump-token.result
    refl (c.starts.ensures.yes (cc)) c.bump-token.ensures.taken c.bump-token.ensures.operators rest) (c.in_err-mark.ensures.reads _))

pub returns-in_err-value-clause-reads : goal.returns-in_err-value-clause-reads
returns-in_err-value-clause-reads c = let p = err_from_is_err_and c.from_residual-in_err-value.result c.from_residual-in_err-value.ensures.1 in
    rw (p.1, p.2) (λ rest. stops
    (moves (plainly g.assign 0 c.args.self.now c.bump-token.new.self c.bump-token.result refl (c.starts.ensures.yes (cc)) c.bump-token.ensures.taken
    c.bump-token.ensures.operators rest) (c.in_ok-mark.ensures.reads _)) (c.in_err-value.ensures.reads _))

pub returns-clause-reads : goal.returns-clause-reads
returns-clause-reads c = let q : c.in_ok-name.name ≡ (at c.args.self.now c.bump-token.result).text =
    c.in_ok-name.ensures ∙ ap (λ (x : List ℕ). slice_range x c.bump-token.result.start c.bump-token.result.end) c.bump-token.ensures.text in
    rw (q) (λ rest. moves (moves (plainly g.assign 0 c.args.self.now c.bump-token.new.self c.bump-token.result refl (c.starts.ensures.yes (cc))
    c.bump-token.ensures.taken c.bump-token.ensures.operators rest) (c.in_ok-mark.ensures.reads _)) (c.in_ok-value.ensures.reads _))
