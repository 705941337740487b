use Rattle.std.proofs.Common.{◌≡◌, ℕ, ◌<◌}
use Rattle.trace_tool.specs.Pass.{PulseEnds, begins, last_step, shown}
use Rattle.trace_tool.proofs.pulse.pulse_end.Given as goal

abbrev pub invariant-loop-t : goal.invariant-loop-t
invariant-loop-t l =
    (l.last ≡ last_step (begins l.from l.wires 0) (shown l.bits l.i l.wires 0) l.t)
    × ((t : ℕ) → t < l.t → PulseEnds l.bits l.i l.wires l.from t → ⊥)
