use Rattle.std.proofs.Common.{◌≡◌, ℕ, length, drop}
use Rattle.flat_circuit.specs.Steps.{pins_noted, row_at}
use Rattle.flat_circuit.proofs.readers.note_pins.Given as goal

abbrev pub invariant-loop-t : goal.invariant-loop-t
invariant-loop-t l = (length l.rows.items ≡ length l.fn.rows.items) × ((i : ℕ) → pins_noted l.kind
    i l.k l.t (drop l.t l.pins) (row_at l.rows.items i) ≡ pins_noted l.kind i l.k 0 l.pins (row_at l.fn.rows.items i))
