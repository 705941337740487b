use Rattle.std.proofs.Common.{◌≡◌, ◌-◌, ◌++◌, flat_map}
use Rattle.std.specs.List.{range_with_len}
use Rattle.fixpoint_engine.specs.Settled.{marked_in}
use Rattle.fault_decider.specs.Choices.{tick_text}
use Rattle.fault_decider.proofs.steps.add_steps.Given as goal

abbrev pub invariant-loop-t : goal.invariant-loop-t
invariant-loop-t l =
    l.out ≡ l.fn.out ++ flat_map (tick_text l.c l.trace (marked_in l.cone)) (range_with_len l.first (l.t - l.first))
