use Rattle.std.proofs.Common.{refl, arith}
use Rattle.std.proofs.lemmas.Result.{err_from_is_err_and}
use Rattle.drawing_grammar.specs.Grammar as g
use Rattle.drawing_grammar.proofs.Moves.{moves, stops}
use Rattle.drawing_reader.proofs.Cursors.{plainly, is_token}
use Rattle.drawing_reader.proofs.cursor.Cursor.constant.Goals as goal

pub returns-in_err-token-clause-reads : goal.returns-in_err-token-clause-reads
returns-in_err-token-clause-reads c =
    let p = err_from_is_err_and c.from_residual.result c.from_residual.ensures.1 in
    rw (p.1, p.2) (λ rest. stops (plainly g.constant 0 c.args.self.now c.bump-begin.new.self c.bump-begin.result
    refl c.requires c.bump-begin.ensures.taken c.bump-begin.ensures.operators rest) (c.in_err-token.ensures.reads _))

pub returns-in_err-mark-clause-reads : goal.returns-in_err-mark-clause-reads
returns-in_err-mark-clause-reads c =
    let p = err_from_is_err_and c.from_residual-in_err-mark.result c.from_residual-in_err-mark.ensures.1 in
    rw (p.1, p.2) (λ rest. stops
    (moves (plainly g.constant 0 c.args.self.now c.bump-begin.new.self c.bump-begin.result refl c.requires c.bump-begin.ensures.taken
    c.bump-begin.ensures.operators rest) (c.in_ok-token.ensures.reads _)) (c.in_err-mark.ensures.reads _))

pub returns-in_err-value-clause-reads : goal.returns-in_err-value-clause-reads
returns-in_err-value-clause-reads c =
    let p = err_from_is_err_and c.from_residual-in_err-value.result c.from_residual-in_err-value.ensures.1 in
    rw (p.1, p.2) (λ rest. stops
    (moves (moves (plainly g.constant 0 c.args.self.now c.bump-begin.new.self c.bump-begin.result refl c.requires c.bump-begin.ensures.taken
    c.bump-begin.ensures.operators rest) (c.in_ok-token.ensures.reads _)) (c.in_ok-mark.ensures.reads _)) (c.in_err-value.ensures.reads _))

pub returns-in_err-mark-2-clause-reads : goal.returns-in_err-mark-2-clause-reads
returns-in_err-mark-2-clause-reads c =
    let p = err_from_is_err_and c.from_residual-in_err-mark-2.result c.from_residual-in_err-mark-2.ensures.1 in
    rw (p.1, p.2) (λ rest. stops
    (moves (moves (moves (plainly g.constant 0 c.args.self.now c.bump-begin.new.self c.bump-begin.result refl c.requires c.bump-begin.ensures.taken
    c.bump-begin.ensures.operators rest) (c.in_ok-token.ensures.reads _)) (c.in_ok-mark.ensures.reads _)) (c.in_ok-value.ensures.reads _))
    (c.in_err-mark-2.ensures.reads _))

pub returns-clause-reads : goal.returns-clause-reads
returns-clause-reads c = rw c.in_ok-token.ensures.text
    (λ rest. moves (moves (moves
    (moves (plainly g.constant 0 c.args.self.now c.bump-begin.new.self c.bump-begin.result refl c.requires c.bump-begin.ensures.taken
    c.bump-begin.ensures.operators rest) (c.in_ok-token.ensures.reads _)) (c.in_ok-mark.ensures.reads _)) (c.in_ok-value.ensures.reads _))
    (c.in_ok-mark-2.ensures.reads _))

pub returns-clause-shorter : goal.returns-clause-shorter
returns-clause-shorter c = let h = c.bump-begin.ensures.shorter (is_token g.constant c.args.self.now c.requires) in omega arith
