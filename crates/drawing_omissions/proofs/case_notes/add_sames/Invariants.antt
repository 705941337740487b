use Rattle.std.specs.List.{flat_map, range_with_len}
use Rattle.drawing_omissions.specs.Lines.{Adds}
use Rattle.drawing_omissions.specs.CaseNotes.{same_in}
use Rattle.drawing_omissions.proofs.case_notes.add_sames.Given as goal

abbrev pub invariant-loop-place : goal.invariant-loop-place
invariant-loop-place l = Adds l.fn.notes l.notes (flat_map (same_in l.firsts) (range_with_len 0 l.place))
