use Rattle.std.proofs.Common.{◌&&◌, take, slice_get}
use Rattle.std.specs.List.{list_any}
use Rattle.flat_circuit.specs.Instances.{readers_of}
use Rattle.fixpoint_engine.specs.Settled.{marked_in}
use Rattle.case_analysis.specs.Found.{Extends}
use Rattle.drawing_notes.specs.Doubts.{launches_to}
use Rattle.drawing_notes.proofs.common.add_launched.Given as goal

abbrev pub invariant-loop-reader : goal.invariant-loop-reader
invariant-loop-reader l =
    Extends (λ i. marked_in l.within i && list_any (λ k. launches_to l.clock (slice_get l.c.instances k) i) (take l.reader-index (readers_of l.c.instances l.clock)))
    l.fn.found l.found
