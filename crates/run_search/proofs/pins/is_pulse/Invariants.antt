use Rattle.std.proofs.Common.{◌≡◌, ◌≤◌, ◌<◌, ℕ}
use Rattle.run_search.specs.Pins.{shown}
use Rattle.run_search.proofs.pins.is_pulse.Given as goal

abbrev pub invariant-loop-t : goal.invariant-loop-t
invariant-loop-t l = (t : ℕ) → l.start ≤ t → t < l.t → shown l.bits l.i l.wires 0 t ≡ l.bit
