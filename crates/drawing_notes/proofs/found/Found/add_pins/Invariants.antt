use Rattle.std.proofs.Common.{◌&&◌, take}
use Rattle.std.specs.List.{list_any}
use Rattle.flat_circuit.specs.Instances.{is_on}
use Rattle.fixpoint_engine.specs.Settled.{marked_in}
use Rattle.case_analysis.specs.Found.{Extends}
use Rattle.drawing_notes.proofs.found.Found.add_pins.Given as goal

abbrev pub invariant-loop-pin : goal.invariant-loop-pin
invariant-loop-pin l =
    Extends (λ i. marked_in l.within i && list_any (λ p. is_on i p.target) (take l.pin-index l.pins)) l.initial.self l.self
