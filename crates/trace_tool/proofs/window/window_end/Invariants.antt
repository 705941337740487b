use Rattle.std.proofs.Common.{◌≡◌, ℕ, ◌<◌}
use Rattle.trace_tool.specs.Pass.{WindowEnds, begins, last_close, last_step, shown}
use Rattle.trace_tool.proofs.window.window_end.Given as goal

abbrev pub invariant-loop-t : goal.invariant-loop-t
invariant-loop-t l =
    (l.last ≡ last_step (begins l.from l.wires 0) (shown l.bits l.i l.wires 0) l.t)
    × ((l.close ≡ last_close l.check (begins l.from l.wires 0) (shown l.bits l.i l.wires 0) l.t)
    × ((l.change ≡ last_step (begins l.from l.wires 1) (shown l.bits l.i l.wires 1) l.t)
    × ((t : ℕ) → t < l.t → WindowEnds l.check l.bits l.i l.wires l.from t → ⊥)))
