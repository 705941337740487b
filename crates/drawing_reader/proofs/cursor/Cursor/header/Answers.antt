use Rattle.std.proofs.Common.{◌≡◌, refl, sym, ◌∙◌}
use Rattle.std.proofs.lemmas.Result.{err_from_is_err_and}
use Rattle.drawing_grammar.specs.Grammar as g
use Rattle.drawing_reader.specs.Reader.{tokens_at, at}
use Rattle.drawing_grammar.specs.Front.{first_terminal}
use Rattle.drawing_grammar.proofs.Moves.{moves, stops}
use Rattle.drawing_reader.proofs.Cursors.{plainly, stuck}
use Rattle.drawing_grammar.proofs.None as none
use Rattle.drawing_grammar.specs.declared.terminal.Terminal.TheVariants.{Scald, EndOfText}
use Rattle.drawing_reader.proofs.Sketches.{edition_at}
use Rattle.drawing_reader.proofs.cursor.Cursor.header.Goals as goal

pub returns-then-not-starts-clause-reads : goal.returns-then-not-starts-clause-reads
returns-then-not-starts-clause-reads c =
    rw c.refused.ensures
    (λ e rest. stuck (g.Text e) 0 c.args.self.now (none.no_text e (first_terminal (tokens_at c.args.self.now)) (c.starts.ensures.no (cc))) refl rest)

pub returns-in_err-version-clause-reads : goal.returns-in_err-version-clause-reads
returns-in_err-version-clause-reads c =
    let p =
    err_from_is_err_and c.from_residual.result c.from_residual.ensures.1 in
    rw (p.1, p.2) (λ e rest. stops (plainly (g.text {v = e}) 0 c.args.self.now c.bump-token.new.self c.bump-token.result
    refl (c.starts.ensures.yes (cc)) c.bump-token.ensures.taken c.bump-token.ensures.operators rest) (c.in_err-version.ensures.reads _))

pub returns-in_err-mark-clause-reads : goal.returns-in_err-mark-clause-reads
returns-in_err-mark-clause-reads c =
    let p = err_from_is_err_and c.from_residual-in_err-mark.result c.from_residual-in_err-mark.ensures.1 in
    rw (p.1, p.2) (λ e rest. stops
    (moves (plainly (g.text {v = e}) 0 c.args.self.now c.bump-token.new.self c.bump-token.result refl (c.starts.ensures.yes (cc)) c.bump-token.ensures.taken
    c.bump-token.ensures.operators rest) (c.in_ok-version.ensures.reads _)) (c.in_err-mark.ensures.reads _))

pub returns-in_err-clock-clause-reads : goal.returns-in_err-clock-clause-reads
returns-in_err-clock-clause-reads c =
    let p = err_from_is_err_and c.from_residual-in_err-clock.result c.from_residual-in_err-clock.ensures.1 in
    rw (p.1, p.2) (λ e rest. stops
    (moves (moves (plainly (g.text {v = e}) 0 c.args.self.now c.bump-token.new.self c.bump-token.result
    refl (c.starts.ensures.yes (cc)) c.bump-token.ensures.taken c.bump-token.ensures.operators
    rest) (c.in_ok-version.ensures.reads _)) (c.in_ok-mark.ensures.reads _)) (c.in_err-clock.ensures.reads _))

pub returns-in_err-wire-clause-reads : goal.returns-in_err-wire-clause-reads
returns-in_err-wire-clause-reads c =
    let p = err_from_is_err_and c.from_residual-in_err-wire.result c.from_residual-in_err-wire.ensures.1 in
    rw (p.1, p.2) (λ e rest. stops
    (moves (moves (moves (plainly (g.text {v = e}) 0 c.args.self.now c.bump-token.new.self c.bump-token.result
    refl (c.starts.ensures.yes (cc)) c.bump-token.ensures.taken c.bump-token.ensures.operators rest) (c.in_ok-version.ensures.reads _))
    (c.in_ok-mark.ensures.reads _)) (c.in_ok-clock.ensures.reads.leads _)) (c.in_err-wire.ensures.reads _))

pub returns-in_err-pskew-clause-reads : goal.returns-in_err-pskew-clause-reads
returns-in_err-pskew-clause-reads c =
    let p = err_from_is_err_and c.from_residual-in_err-pskew.result c.from_residual-in_err-pskew.ensures.1 in
    rw (p.1, p.2) (λ e rest. stops
    (moves (moves (moves (moves (plainly (g.text {v = e}) 0 c.args.self.now c.bump-token.new.self c.bump-token.result refl
    (c.starts.ensures.yes (cc)) c.bump-token.ensures.taken c.bump-token.ensures.operators rest) (c.in_ok-version.ensures.reads _))
    (c.in_ok-mark.ensures.reads _)) (c.in_ok-clock.ensures.reads.leads _)) (c.in_ok-wire.ensures.reads _)) (c.in_err-pskew.ensures.reads _))

pub returns-in_err-cskew-clause-reads : goal.returns-in_err-cskew-clause-reads
returns-in_err-cskew-clause-reads c =
    let p = err_from_is_err_and c.from_residual-in_err-cskew.result c.from_residual-in_err-cskew.ensures.1 in
    rw (p.1, p.2) (λ e rest. stops
    (moves (moves (moves (moves
    (moves (plainly (g.text {v = e}) 0 c.args.self.now c.bump-token.new.self c.bump-token.result refl (c.starts.ensures.yes (cc)) c.bump-token.ensures.taken
    c.bump-token.ensures.operators rest) (c.in_ok-version.ensures.reads _)) (c.in_ok-mark.ensures.reads _))
    (c.in_ok-clock.ensures.reads.leads _)) (c.in_ok-wire.ensures.reads _)) (c.in_ok-pskew.ensures.reads _)) (c.in_err-cskew.ensures.reads _))

pub returns-clause-reads : goal.returns-clause-reads
returns-clause-reads c =
    rw (c.written.ensures, c.in_ok-clock.ensures.reads.is)
    (λ e rest. moves (moves (moves
    (moves (moves (moves (plainly (g.text {v = e}) 0 c.args.self.now c.bump-token.new.self c.bump-token.result refl
    (c.starts.ensures.yes (cc)) c.bump-token.ensures.taken c.bump-token.ensures.operators rest) (c.in_ok-version.ensures.reads _))
    (c.in_ok-mark.ensures.reads _)) (c.in_ok-clock.ensures.reads.leads _))
    (c.in_ok-wire.ensures.reads _)) (c.in_ok-pskew.ensures.reads _)) (c.in_ok-cskew.ensures.reads _))

pub returns-clause-version : goal.returns-clause-version
returns-clause-version c =
    let ts = tokens_at c.args.self.now in
    let us = tokens_at c.bump-token.new.self in
    let first = c.bump-token.ensures.taken (λ h. let z : Scald ≡ EndOfText = sym (c.starts.ensures.yes (cc)) ∙ h in absurd cc) in
    rw c.written.ensures
    (edition_at (at c.args.self.now c.bump-token.result) (at c.bump-token.new.self c.in_ok-version.version) ts us first _ c.in_ok-version.ensures.taken)
