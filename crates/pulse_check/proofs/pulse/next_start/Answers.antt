use Rattle.std.proofs.Common.{length, arith, refl, sym, ap, ◌∙◌}
use Rattle.fixpoint_engine.specs.Pins.{read}
use Rattle.fixpoint_engine.proofs.ReadSlots.{read_at, same_read}
use Rattle.pulse_check.specs.Pulse.{may_begin}
use Rattle.pulse_check.proofs.Narrow.{none_to, none_yet, none_left, starts_at}
use Rattle.pulse_check.proofs.pulse.next_start.Goals as goal

pub runs-init : goal.runs-init
runs-init g c = none_yet c.args.level (read (g.W.CyclicWave.cells c.args.wave.now)) c.args.from (length (g.W.CyclicWave.cells c.args.wave.now)) c.requires

pub runs-preserved : goal.runs-preserved
runs-preserved g c =
    let cells = g.W.CyclicWave.cells c.args.wave.now in
    let until = c.same_until-slot.ensures in
    none_to c.args.level (read cells) c.args.from (length cells) c.runs.slot c.same_until-slot.result c.runs.invariant (let far = until.behind in omega (arith, far)) until.within
    (λ s above below. ap (may_begin c.args.level) (same_read cells c.runs.slot c.same_until-slot.result s c.at.result until c.at.ensures above below) ∙ sym c.may_begin.ensures ∙ c.if-may_begin.false)

pub returns-then-may_begin : goal.returns-then-may_begin
returns-then-may_begin g c =
    let cells = g.W.CyclicWave.cells c.args.wave.now in
    let p = c.period-period.ensures in
    starts_at c.args.level (read cells) c.args.from (length cells) c.runs.slot c.runs.invariant
    (ap (may_begin c.args.level) (read_at cells c.runs.slot c.runs.slot c.at.result refl (omega (arith, p)) c.at.ensures) ∙ sym c.may_begin.ensures ∙ c.if-may_begin.true)

pub returns : goal.returns
returns g c =
    let cells = g.W.CyclicWave.cells c.args.wave.now in
    none_left c.args.level (read cells) c.args.from (length cells) c.runs.slot c.period-period.result c.runs.invariant c.period-period.ensures (let p = c.period-period.ensures in omega arith)
