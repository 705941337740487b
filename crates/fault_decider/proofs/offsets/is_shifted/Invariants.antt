use Rattle.std.proofs.Common.{◌≡◌, ◌-◌}
use Rattle.std.specs.List.{list_all, range_with_len}
use Rattle.fault_decider.specs.Choices.{is_shifted, is_shifted_at}
use Rattle.fault_decider.proofs.offsets.is_shifted.Given as goal

abbrev pub invariant-loop-t : goal.invariant-loop-t
invariant-loop-t l =
    list_all (is_shifted_at l.h l.clock l.early l.row l.by) (range_with_len l.t (l.ticks - l.t))
    ≡ is_shifted l.h l.clock l.early l.ticks l.row l.by
