use Rattle.std.proofs.Common.{refl}
use Rattle.std.proofs.lemmas.Result.{err_from_is_err_and}
use Rattle.drawing_grammar.specs.Grammar as g
use Rattle.drawing_reader.specs.Reader.{tokens_at}
use Rattle.drawing_grammar.specs.Front.{first_terminal}
use Rattle.drawing_grammar.proofs.Moves.{moves, stops}
use Rattle.drawing_reader.proofs.Cursors.{plainly, stuck}
use Rattle.drawing_grammar.proofs.None as none
use Rattle.drawing_reader.proofs.cursor.Cursor.definition.Goals as goal

pub returns-then-not-starts-clause-reads : goal.returns-then-not-starts-clause-reads
returns-then-not-starts-clause-reads c = rw c.refused.ensures
    (λ rest. stuck (g.Macro c.args.edition) 0 c.args.self.now (none.no_macro c.args.edition (first_terminal (tokens_at c.args.self.now)) (c.starts.ensures.no (cc))) refl rest)

pub returns-in_err-token-clause-reads : goal.returns-in_err-token-clause-reads
returns-in_err-token-clause-reads c =
    let p = err_from_is_err_and c.from_residual.result c.from_residual.ensures.1 in
    rw (p.1, p.2) (λ rest. stops (plainly (g.macro {v = c.args.edition}) 0 c.args.self.now c.bump.new.self c.bump.result
    refl (c.starts.ensures.yes (cc)) c.bump.ensures.taken c.bump.ensures.operators rest) (c.in_err-token.ensures.reads _))

pub returns-in_err-declares-clause-reads : goal.returns-in_err-declares-clause-reads
returns-in_err-declares-clause-reads c = let p =
    err_from_is_err_and c.from_residual-in_err-declares.result c.from_residual-in_err-declares.ensures.1 in
    rw (p.1, p.2) (λ rest. stops
    (moves (plainly (g.macro {v = c.args.edition}) 0 c.args.self.now c.bump.new.self c.bump.result refl (c.starts.ensures.yes (cc)) c.bump.ensures.taken
    c.bump.ensures.operators rest) (c.in_ok-token.ensures.reads _)) (c.in_err-declares.ensures.reads _))

pub returns-in_err-body-clause-reads : goal.returns-in_err-body-clause-reads
returns-in_err-body-clause-reads c = let p = err_from_is_err_and c.from_residual-in_err-body.result c.from_residual-in_err-body.ensures.1 in
    rw (p.1, p.2) (λ rest. stops
    (moves (moves (plainly (g.macro {v = c.args.edition}) 0 c.args.self.now c.bump.new.self c.bump.result refl (c.starts.ensures.yes (cc)) c.bump.ensures.taken
    c.bump.ensures.operators rest) (c.in_ok-token.ensures.reads _)) (c.in_ok-declares.ensures.reads _)) (c.in_err-body.ensures.reads _))

pub returns-clause-reads : goal.returns-clause-reads
returns-clause-reads c = rw c.in_ok-token.ensures.text
    (λ rest. moves (moves (moves (plainly (g.macro {v = c.args.edition}) 0 c.args.self.now c.bump.new.self c.bump.result
    refl (c.starts.ensures.yes (cc)) c.bump.ensures.taken c.bump.ensures.operators
    rest) (c.in_ok-token.ensures.reads _)) (c.in_ok-declares.ensures.reads _)) (c.in_ok-body.ensures.reads _))
