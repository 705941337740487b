use Rattle.std.proofs.Common.{◌≡◌, ℕ, List, refl, ap, ◌∙◌}
use Rattle.std.proofs.lemmas.Result.{err_from_is_err_and}
use Rattle.std.specs.Prelude.{slice_range}
use Rattle.drawing_grammar.specs.Grammar as g
use Rattle.drawing_reader.specs.Reader.{at}
use Rattle.drawing_grammar.proofs.Moves.{moves, stops}
use Rattle.drawing_reader.proofs.Cursors.{plainly}
use Rattle.drawing_reader.proofs.cursor.Cursor.use_statement.Goals as goal

pub returns-in_err-mark-clause-reads : goal.returns-in_err-mark-clause-reads
returns-in_err-mark-clause-reads c = let p =
    err_from_is_err_and c.from_residual-in_err-mark.result c.from_residual-in_err-mark.ensures.1 in
    rw (p.1, p.2) (λ e n rest no_for. stops (plainly (g.use_ {v = e}) n c.args.self.now c.bump-token.new.self c.bump-token.result
    refl (c.requires, no_for) c.bump-token.ensures.taken c.bump-token.ensures.operators rest) (c.in_err-mark.ensures.reads _))

pub returns-in_err-kind-clause-reads : goal.returns-in_err-kind-clause-reads
returns-in_err-kind-clause-reads c = let p = err_from_is_err_and c.from_residual-in_err-kind.result c.from_residual-in_err-kind.ensures.1 in
    rw (p.1, p.2) (λ e n rest no_for. stops (moves (plainly (g.use_ {v = e}) n c.args.self.now c.bump-token.new.self c.bump-token.result
    refl (c.requires, no_for) c.bump-token.ensures.taken c.bump-token.ensures.operators rest) (c.in_ok-mark.ensures.reads _)) (c.in_err-kind.ensures.reads _))

pub returns-in_err-details-clause-reads : goal.returns-in_err-details-clause-reads
returns-in_err-details-clause-reads c = let p = err_from_is_err_and c.from_residual-in_err-details.result c.from_residual-in_err-details.ensures.1 in
    rw (p.1, p.2) (λ e n rest no_for. stops
    (moves (moves (plainly (g.use_ {v = e}) n c.args.self.now c.bump-token.new.self c.bump-token.result refl (c.requires, no_for) c.bump-token.ensures.taken
    c.bump-token.ensures.operators rest) (c.in_ok-mark.ensures.reads _)) (c.in_ok-kind.ensures.reads _)) (c.in_err-details.ensures.reads _))

pub returns-clause-reads : goal.returns-clause-reads
returns-clause-reads c = let q : c.in_ok-label.label ≡ (at c.args.self.now c.bump-token.result).text =
    c.in_ok-label.ensures ∙ ap (λ (x : List ℕ). slice_range x c.bump-token.result.start c.bump-token.result.end) c.bump-token.ensures.text in
    rw (q, c.in_ok-kind.ensures.text)
    (λ e n rest no_for. moves (moves (moves (plainly (g.use_ {v = e}) n c.args.self.now c.bump-token.new.self c.bump-token.result
    refl (c.requires, no_for) c.bump-token.ensures.taken c.bump-token.ensures.operators
    rest) (c.in_ok-mark.ensures.reads _)) (c.in_ok-kind.ensures.reads _)) (c.in_ok-details.ensures.reads.leads _))
