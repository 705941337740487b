use Rattle.std.proofs.Common.{◌≡◌, ◌+◌, ◌-◌, reverse}
use Rattle.std.specs.List.{range_with_len}
use Rattle.vector_names.proofs.range.downwards.Given as goal

abbrev pub invariant-loop-further : goal.invariant-loop-further
invariant-loop-further l = l.numbers ≡ reverse (range_with_len (l.first + 1 - l.further) l.further)
