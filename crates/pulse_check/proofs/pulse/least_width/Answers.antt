use Rattle.std.proofs.Common.{◌+◌, ◌%◌, ◌≤◌, arith, refl, sym, ap, ◌∙◌}
use Rattle.step_values.specs.Cell.{values}
use Rattle.wave_core.proofs.Places.{round_cell, same_cell}
use Rattle.fixpoint_engine.specs.Pins.{read}
use Rattle.fixpoint_engine.proofs.ReadSlots.{below_run}
use Rattle.pulse_check.specs.Pulse.{may_end, may_last}
use Rattle.pulse_check.proofs.Narrow.{GoesOn, unended_on, ends_here, stops_here, never_ends}
use Rattle.pulse_check.proofs.pulse.least_width.Goals as goal

pub returns-then-may_end : goal.returns-then-may_end
returns-then-may_end g c =
    let cells = g.W.CyclicWave.cells c.args.wave.now in
    let p = c.period-period.ensures in
    let one = c.runs.invariant.begun in
    sym (ends_here c.args.level (read cells) c.args.limit c.args.start c.runs.width one c.runs-test.true c.runs.invariant.goes_on
    (ap (may_end c.args.level) (round_cell values cells c.period-period.result (c.args.start + c.runs.width) _ c.at-value.result p refl c.at-value.ensures)
    ∙ sym c.may_end.ensures ∙ c.if-may_end.true))

pub returns-then-not-may_last : goal.returns-then-not-may_last
returns-then-not-may_last g c =
    let cells = g.W.CyclicWave.cells c.args.wave.now in
    let p = c.period-period.ensures in
    let one = c.runs.invariant.begun in
    let at = round_cell values cells c.period-period.result (c.args.start + c.runs.width) ((c.args.start + c.runs.width) % c.period-period.result) c.at-value.result p refl c.at-value.ensures in
    sym (stops_here c.args.level (read cells) c.args.limit c.args.start c.runs.width one c.runs.invariant.goes_on
    (ap (may_end c.args.level) at ∙ sym c.may_end.ensures ∙ c.if-may_end.false)
    (ap (may_last c.args.level) at ∙ sym c.may_last.ensures ∙ c.if-not-may_last.true))

pub runs-init : goal.runs-init
runs-init g c = record { begun = omega arith; goes_on = λ k below one. absurd (omega (arith, below, one)) }

pub runs-preserved : goal.runs-preserved
runs-preserved g c =
    let cells = g.W.CyclicWave.cells c.args.wave.now in
    let p = c.period-period.ensures in
    let one = c.runs.invariant.begun in
    record {
      begun = omega (arith, one);
      goes_on = below_run (λ k. 1 ≤ k → GoesOn c.args.level (read cells) c.args.start k) c.runs.width _ c.runs.invariant.goes_on
          (λ k above below one. unended_on c.args.level (read cells) c.args.start k c.at-value.result c.may_end.result c.may_last.result
          (same_cell values cells c.period-period.result c.args.start c.runs.width ((c.args.start + c.runs.width) % c.period-period.result)
          c.same_until.result k c.at-value.result p refl c.at-value.ensures c.same_until.ensures
          (omega arith) (omega (arith, below)))
          c.may_end.ensures c.if-may_end.false c.may_last.ensures c.if-not-may_last.false);
    }

pub returns : goal.returns
returns g c =
    let cells = g.W.CyclicWave.cells c.args.wave.now in
    sym (never_ends c.args.level (read cells) c.args.limit c.args.start (λ k below above. c.runs.invariant.goes_on k (omega arith) above))
