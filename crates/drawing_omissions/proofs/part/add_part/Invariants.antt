use Rattle.std.proofs.Common.{take}
use Rattle.std.specs.List.{flat_map}
use Rattle.drawing_omissions.specs.Lines.{Adds}
use Rattle.drawing_omissions.specs.Part.{part_at}
use Rattle.drawing_omissions.proofs.part.add_part.Given as goal

abbrev pub invariant-loop-net : goal.invariant-loop-net
invariant-loop-net l = Adds l.fn.notes l.notes (flat_map (part_at l.c) (take l.net-index l.loose))
