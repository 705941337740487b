use Rattle.std.proofs.Common.{refl}
use Rattle.std.proofs.lemmas.Result.{err_from_is_err_and}
use Rattle.drawing_grammar.specs.Grammar as g
use Rattle.drawing_grammar.proofs.Moves.{moves, stops}
use Rattle.drawing_reader.proofs.Cursors.{plainly}
use Rattle.drawing_reader.proofs.cursor.Cursor.wire_statement.Goals as goal

pub returns-in_err-net-clause-reads : goal.returns-in_err-net-clause-reads
returns-in_err-net-clause-reads c =
    let p = err_from_is_err_and c.from_residual.result c.from_residual.ensures.1 in
    rw (p.1, p.2) (λ e n rest. stops (plainly (g.wire {v = e}) n c.args.self.now c.bump-token.new.self c.bump-token.result
    refl c.requires c.bump-token.ensures.taken c.bump-token.ensures.operators rest) (c.in_err-net.ensures.reads _))

pub returns-in_err-min-clause-reads : goal.returns-in_err-min-clause-reads
returns-in_err-min-clause-reads c = let p =
    err_from_is_err_and c.from_residual-in_err-min.result c.from_residual-in_err-min.ensures.1 in
    rw (p.1, p.2) (λ e n rest. stops (moves (plainly (g.wire {v = e}) n c.args.self.now c.bump-token.new.self c.bump-token.result
    refl c.requires c.bump-token.ensures.taken c.bump-token.ensures.operators rest) (c.in_ok-net.ensures.reads.leads _)) (c.in_err-min.ensures.reads _))

pub returns-clause-reads : goal.returns-clause-reads
returns-clause-reads c = rw c.in_ok-net.ensures.reads.is
    (λ e n rest. moves (moves (plainly (g.wire {v = e}) n c.args.self.now c.bump-token.new.self c.bump-token.result refl
    c.requires c.bump-token.ensures.taken c.bump-token.ensures.operators rest) (c.in_ok-net.ensures.reads.leads _)) (c.in_ok-min.ensures.reads _))
