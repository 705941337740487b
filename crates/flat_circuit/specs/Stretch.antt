-- Nets of one name that follow one another.
use Rattle.std.specs.Prelude.{ℕ, ◌-◌, List}
use Rattle.std.specs.List.{range_with_len}
use Rattle.flat_circuit.specs.declared.order.Stretch.{Stretch}

-- their numbers
abbrev pub numbers_of : Stretch → List ℕ
numbers_of s = range_with_len s.begin (s.end - s.begin)
