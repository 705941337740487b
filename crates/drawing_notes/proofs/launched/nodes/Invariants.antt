use Rattle.std.proofs.Common.{◌≡◌, map}
use Rattle.std.specs.List.{range_with_len}
use Rattle.flat_circuit.specs.Node.{node_feeders}
use Rattle.drawing_notes.specs.Arrivals.{feeders_in}
use Rattle.drawing_notes.specs.Parts.{together}
use Rattle.drawing_notes.specs.Paths.{is_looped}
use Rattle.drawing_notes.proofs.launched.nodes.Given as goal

abbrev pub invariant-loop-net : goal.invariant-loop-net
invariant-loop-net l = map node_feeders l.nodes.items ≡ map (feeders_in l.c (is_looped (together l.parts))) (range_with_len 0 l.net)
