use Rattle.std.proofs.Common.{ℕ, ◌-◌, ap, arith, below_more, subst}
use Rattle.scald_base.specs.Time.{Bounds}
use Rattle.run_clauses.specs.Meaning.{NoneStepsAt}
use Rattle.run_clauses.proofs.change.put_steps.Goals as goal

pub loop-ticks-init : goal.loop-ticks-init
loop-ticks-init c bits fails =
    let least_is = ap (λ (b : Bounds). b.min) c.delay.view_is in
    (fails, λ k below least. absurd (omega arith))

pub loop-ticks-preserved : goal.loop-ticks-preserved
loop-ticks-preserved c bits fails =
    let parts = c.in_ok-put_steps_at.ensures bits fails in
    let before = c.loop-ticks.invariant bits parts.0 in (
      before.0,
      below_more _ _ before.1 (λ least.
          subst (λ (u : ℕ). NoneStepsAt c.args.net c.args.pins u bits) c.saturating_sub.ensures
          parts.1),
    )

pub returns : goal.returns
returns c bits fails =
    let is = c.loop-ticks.invariant bits fails in
    let greatest_is = ap (λ (b : Bounds). b.max) c.delay.view_is in (
      is.0,
      λ u within.
          subst (λ (v : ℕ). NoneStepsAt c.args.net c.args.pins v bits) (omega arith)
          (is.1 (c.args.net.tick - u) (omega arith) (omega arith)),
    )
