use Rattle.std.proofs.Common.{◌≡◌, ◌++◌, flat_map, take}
use Rattle.fixpoint_engine.specs.Settled.{marked_in}
use Rattle.fault_decider.specs.Choices.{step_of_net}
use Rattle.fault_decider.proofs.steps.add_tick.Given as goal

abbrev pub invariant-loop-place : goal.invariant-loop-place
invariant-loop-place l =
    l.out ≡ l.fn.out ++ flat_map (step_of_net l.c l.trace (marked_in l.cone) l.t) (take l.place l.c.order)
