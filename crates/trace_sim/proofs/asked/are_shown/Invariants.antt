use Rattle.std.proofs.Common.{◌≡◌, drop}
use Rattle.element_kinds.specs.Equation.{pins_before}
use Rattle.trace_sim.specs.Making.{are_there}
use Rattle.trace_sim.proofs.asked.are_shown.Given as goal

abbrev pub invariant-loop-wire : goal.invariant-loop-wire
invariant-loop-wire l = are_there (pins_before l.back (drop l.wire-index l.wires)) l.t ≡ are_there (pins_before l.back l.wires) l.t
