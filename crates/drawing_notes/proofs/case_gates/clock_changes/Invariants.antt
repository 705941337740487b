use Rattle.std.proofs.Common.{◌≡◌, ◌&&◌, false, take}
use Rattle.std.specs.List.{list_any}
use Rattle.fixpoint_engine.specs.Settled.{marked_in}
use Rattle.fixpoint_engine.specs.Waves.{waves_of}
use Rattle.drawing_notes.specs.Passing.{changes_on}
use Rattle.drawing_notes.specs.Unmarked.{target_in}
use Rattle.drawing_notes.proofs.case_gates.clock_changes.Given as goal

abbrev pub invariant-loop-pin : goal.invariant-loop-pin
invariant-loop-pin g l =
    list_any (λ p. target_in (marked_in l.clocks) p.target && changes_on (waves_of l.waves) p.target) (take l.pin-index l.pins) ≡ false
