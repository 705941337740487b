use Rattle.std.proofs.Common.{◌*◌, ◌<◌, ◌∙◌, sym, arith}
use Rattle.scald_base.specs.Time.{period}
use Rattle.assertion_syntax.specs.Slots.{steps}
use Rattle.assertion_syntax.proofs.Near.{at_start, passed_over, one_more, near_found}
use Rattle.assertion_syntax.proofs.fitting.are_near.Goals as goal
use Rattle.assertion_syntax.proofs.fitting.are_near.Goals.{then-steps+else-is_near, else-steps}

pub ticks-init : goal.ticks-init
ticks-init c = at_start (steps c.args.clock.now c.args.h.now) c.args.reach

pub returns-then-is_near : goal.returns-then-is_near
returns-then-is_near c =
    let within : c.ticks.tick < 2 * period c.args.h.now = omega (arith, c.ticks-test.true, c.period-tick-end.ensures.is) in
    near_found (steps c.args.clock.now c.args.h.now) c.args.reach c.ticks.last c.ticks.tick (2 * period c.args.h.now) c.ticks.invariant within
    (sym c.steps.ensures ∙ c.if-steps.true) (sym c.is_near.ensures ∙ c.if-is_near.true)

pub ticks-preserved : goal.ticks-preserved
ticks-preserved c = elim c.if-steps.branch [
  | then-steps+else-is_near w ↦
      rw w.last-is (one_more (steps c.args.clock.now c.args.h.now) c.args.reach c.ticks.last c.ticks.tick c.ticks.invariant
      (sym c.steps.ensures ∙ w.if-steps.true) (sym w.is_near.ensures ∙ w.if-is_near.false))
  | else-steps w ↦
      rw w.last-is (passed_over (steps c.args.clock.now c.args.h.now) c.args.reach c.ticks.last c.ticks.tick c.ticks.invariant (sym c.steps.ensures ∙ w.if-steps.false))
]
