use Rattle.std.proofs.Common.{ℕ, ◌<◌, ◌≤◌, Some}
use Rattle.std.specs.Prelude.{◌≡◌, slice_get}
use Rattle.flat_circuit.specs.declared.instance.Pin.{Pin}
use Rattle.flat_circuit.specs.Run.{WireFits}
use Rattle.trace_tool.proofs.read.know_wires.Given as goal

abbrev pub invariant-loop-pin : goal.invariant-loop-pin
invariant-loop-pin l =
    (k : ℕ) (p : Pin) (wire : ℕ) → k < l.pin-index → slice_get l.pins k ≡ Some p → WireFits l.c.nets p.target wire → wire ≤ 4095
