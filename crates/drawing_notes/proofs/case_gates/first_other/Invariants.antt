use Rattle.std.proofs.Common.{◌≡◌, ◌&&◌, not, drop}
use Rattle.std.specs.List.{position_from}
use Rattle.fixpoint_engine.specs.Settled.{marked_in}
use Rattle.fixpoint_engine.specs.Waves.{waves_of}
use Rattle.flat_circuit.specs.declared.instance.Pin.{Pin}
use Rattle.drawing_notes.specs.Passing.{changes_on}
use Rattle.drawing_notes.specs.Unmarked.{target_in}
use Rattle.drawing_notes.proofs.case_gates.first_other.Given as goal

abbrev pub invariant-loop-place : goal.invariant-loop-place
invariant-loop-place g l =
    position_from (λ (p : Pin). not (target_in (marked_in l.clocks) p.target) && changes_on (waves_of l.waves) p.target) l.place (drop l.place l.pins)
    ≡ position_from (λ (p : Pin). not (target_in (marked_in l.clocks) p.target) && changes_on (waves_of l.waves) p.target) 0 l.pins
