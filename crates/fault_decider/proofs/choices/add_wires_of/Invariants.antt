use Rattle.std.proofs.Common.{◌≡◌, ◌++◌, drop}
use Rattle.fault_decider.specs.Choices.{wire_lines}
use Rattle.fault_decider.proofs.choices.add_wires_of.Given as goal

abbrev pub invariant-loop-place : goal.invariant-loop-place
invariant-loop-place l =
    l.out ++ wire_lines l.c l.k l.place (drop l.place l.pins) (drop l.place l.wires)
    ≡ l.fn.out ++ wire_lines l.c l.k 0 l.pins l.wires
