use Rattle.std.proofs.Common.{◌≡◌, ◌+◌, ◌-◌, ◌++◌, ◌≤◌}
use Rattle.std.specs.List.{range_with_len}
use Rattle.flat_circuit.proofs.order.add_stretch.Given as goal

abbrev pub invariant-loop-number : goal.invariant-loop-number
invariant-loop-number l =
    (l.order.items ≡ l.fn.order.items ++ range_with_len l.fn.stretch.begin (l.number - l.fn.stretch.begin))
    × (l.fn.stretch.begin ≤ l.number)
    × (l.number ≤ l.fn.stretch.begin + (l.fn.stretch.end - l.fn.stretch.begin))
