use Rattle.std.proofs.Common.{sym, ◌∙◌, arith}
use Rattle.fixpoint_engine.proofs.ReadSlots.{length_folded}
use Rattle.point_check.proofs.Exceeded.{no_assertion_fault, an_assertion_fault}
use Rattle.point_check.proofs.assertion.assertion_fault.Goals as goal

pub first_excess-requires : goal.first_excess-requires
first_excess-requires g c =
    c.in_ok-wide.ensures.sized ∙ sym c.requires.period
    ∙ sym (length_folded c.args.wave.now (g.W.CyclicWave.cells c.in_ok-found.found) c.in_ok-found.ensures.wave)

pub returns-in-None : goal.returns-in-None
returns-in-None g c =
    no_assertion_fault c.args.h.now c.args.spec.now c.args.number c.args.wave.now
    (g.W.CyclicWave.cells c.in_ok-found.found) (g.W.CyclicWave.cells c.in_ok-wide.wide)
    (let two = c.known.ensures.sized.shortest in omega (arith, two)) c.requires.period
    c.in_ok-found.ensures.wave c.in_ok-wide.ensures.wave c.in_ok-wide.ensures.sized c.in-None.ensures.first

pub returns : goal.returns
returns g c =
    an_assertion_fault c.args.h.now c.args.spec.now c.args.number c.args.wave.now
    (g.W.CyclicWave.cells c.in_ok-found.found) (g.W.CyclicWave.cells c.in_ok-wide.wide)
    (let two = c.known.ensures.sized.shortest in omega (arith, two)) c.requires.period
    c.in_ok-found.ensures.wave c.in_ok-wide.ensures.wave c.in_ok-wide.ensures.sized
    c.in-Some.slot c.at.result c.letter.result c.in-Some.ensures.first c.in-Some.ensures.within c.at.ensures c.letter.ensures
