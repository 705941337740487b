use Rattle.std.proofs.Common.{◌≡◌, ℕ, ◌+◌, ◌-◌, ◌%◌, ◌≤◌, ◌<◌, min, true, false, arith, refl, sym, ap, subst, ◌∙◌, Option}
use Rattle.std.specs.Prelude.{IfSome}
use Rattle.step_values.specs.declared.value.Value.{Value}
use Rattle.step_values.specs.Steps.{has}
use Rattle.step_values.specs.Cell.{values}
use Rattle.wave_core.proofs.Places.{same_cell}
use Rattle.fixpoint_engine.specs.Pins.{read}
use Rattle.point_check.proofs.Where.{last_to_run, last_to_small}
use Rattle.point_check.proofs.edges.last_fall.Goals as goal

pub runs-preserved-then-may_fall : goal.runs-preserved-then-may_fall
runs-preserved-then-may_fall g c =
    let cells = g.W.CyclicWave.cells c.args.clock.now in
    let p = c.period-period.ensures in
    let slot : ℕ = (c.args.edge + c.runs.fall) % c.period-period.result in
    let next : c.min-next.result ≡ min (c.runs.fall + (c.same_until.result - slot)) (c.args.low + 1) = c.min-next.ensures in
    let far : slot < c.same_until.result = c.same_until.ensures.behind in
    let begun = c.runs.invariant.begun in
    record {
      begun = omega (arith, next, begun, far);
      within = omega (arith, next);
      last = sym (last_to_run (λ k. has (read cells (c.args.edge + k)) true false) (c.runs.fall - 1) (c.min-next.result - 1) true (omega (arith, next, begun, far))
          (λ k above most. ap (λ (v : Value). has v true false)
          (same_cell values cells c.period-period.result c.args.edge c.runs.fall slot c.same_until.result k c.at.result p refl c.at.ensures c.same_until.ensures
          (omega (arith, above, begun)) (omega (arith, most, next, begun, far)))
          ∙ sym c.may_fall.ensures ∙ c.if-may_fall.true));
    }

pub runs-preserved : goal.runs-preserved
runs-preserved g c =
    let cells = g.W.CyclicWave.cells c.args.clock.now in
    let p = c.period-period.ensures in
    let slot : ℕ = (c.args.edge + c.runs.fall) % c.period-period.result in
    let next : c.min-next.result ≡ min (c.runs.fall + (c.same_until.result - slot)) (c.args.low + 1) = c.min-next.ensures in
    let far : slot < c.same_until.result = c.same_until.ensures.behind in
    let begun = c.runs.invariant.begun in
    record {
      begun = omega (arith, next, begun, far);
      within = omega (arith, next);
      last = c.runs.invariant.last
          ∙ sym (last_to_run (λ k. has (read cells (c.args.edge + k)) true false) (c.runs.fall - 1) (c.min-next.result - 1) false (omega (arith, next, begun, far))
          (λ k above most. ap (λ (v : Value). has v true false)
          (same_cell values cells c.period-period.result c.args.edge c.runs.fall slot c.same_until.result k c.at.result p refl c.at.ensures c.same_until.ensures
          (omega (arith, above, begun)) (omega (arith, most, next, begun, far)))
          ∙ sym c.may_fall.ensures ∙ c.if-may_fall.false));
    }

pub returns-clause-within : goal.returns-clause-within
returns-clause-within g c =
    let cells = g.W.CyclicWave.cells c.args.clock.now in
    let within = c.runs.invariant.within in
    subst (λ (o : Option ℕ). IfSome o (λ fall. fall ≤ c.args.low)) (sym c.runs.invariant.last)
    (last_to_small (λ k. has (read cells (c.args.edge + k)) true false) (c.runs.fall - 1) c.args.low (omega (arith, within)))
