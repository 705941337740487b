use Rattle.std.proofs.Common.{◌≡◌, ◌≢◌, ℕ, ◌<◌, true}
use Rattle.trace_tool.specs.Pass.{begins, shown, steps}
use Rattle.trace_tool.proofs.mark.disturbs.Given as goal

abbrev pub invariant-loop-pin : goal.invariant-loop-pin
invariant-loop-pin l =
    (pin : ℕ) → pin < l.pin → pin ≢ l.marked → steps (begins l.from l.wires pin) (shown l.bits l.i l.wires pin) l.t ≡ true → ⊥
