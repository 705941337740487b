use Rattle.std.proofs.Common.{◌≡◌, false, take}
use Rattle.std.specs.List.{list_any}
use Rattle.fixpoint_engine.specs.Settled.{marked_in}
use Rattle.fixpoint_engine.specs.Work.{is_on_any}
use Rattle.drawing_notes.proofs.found.has_pin_on_any.Given as goal

abbrev pub invariant-loop-pin : goal.invariant-loop-pin
invariant-loop-pin l = list_any (λ p. is_on_any (marked_in l.nets) p.target) (take l.pin-index l.pins) ≡ false
