use Rattle.std.proofs.Common.{◌≡◌, ◌+◌, ◌-◌}
use Rattle.fault_decider.specs.Choices.{first_from, is_shifted, offset_of}
use Rattle.fault_decider.proofs.offsets.offset_of.Given as goal

abbrev pub invariant-loop-by : goal.invariant-loop-by
invariant-loop-by l =
    first_from (is_shifted l.h l.clock l.skew.0 l.ticks l.row) l.by (l.skew.0 + l.skew.1 + 1 - l.by)
    ≡ offset_of l.h l.clock l.skew l.ticks l.row
