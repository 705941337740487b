use Rattle.std.proofs.Common.{◌≡◌, take}
use Rattle.std.specs.List.{filter_map}
use Rattle.drawing_notes.specs.Arrivals.{open_net}
use Rattle.drawing_notes.specs.Parts.{together}
use Rattle.drawing_notes.specs.Paths.{is_looped}
use Rattle.drawing_notes.proofs.launched.open_nets.Given as goal

abbrev pub invariant-loop-pin : goal.invariant-loop-pin
invariant-loop-pin l = l.nets.items ≡ filter_map (open_net (is_looped (together l.parts))) (take l.pin-index l.pins)
