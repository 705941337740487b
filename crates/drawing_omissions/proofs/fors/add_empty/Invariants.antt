use Rattle.std.proofs.Common.{take}
use Rattle.std.specs.List.{flat_map}
use Rattle.drawing_omissions.specs.Lines.{Adds}
use Rattle.drawing_omissions.specs.Fors.{empty_at}
use Rattle.drawing_omissions.proofs.fors.add_empty.Given as goal

abbrev pub invariant-loop-place : goal.invariant-loop-place
invariant-loop-place l = Adds l.fn.notes l.notes (flat_map (empty_at l.found) (take l.place-index l.places))
