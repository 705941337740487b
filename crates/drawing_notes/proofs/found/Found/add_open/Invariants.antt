use Rattle.std.proofs.Common.{◌&&◌, take, slice_get}
use Rattle.std.specs.List.{list_any}
use Rattle.flat_circuit.specs.Instances.{readers_of}
use Rattle.fixpoint_engine.specs.Settled.{marked_in}
use Rattle.fixpoint_engine.specs.Waves.{waves_of}
use Rattle.case_analysis.specs.Found.{Extends}
use Rattle.drawing_notes.specs.Search.{opens_to}
use Rattle.drawing_notes.proofs.found.Found.add_open.Given as goal

abbrev pub invariant-loop-reader : goal.invariant-loop-reader
invariant-loop-reader g l =
    let v = l.view in
    let circuit = v.circuit.now in
    Extends (λ i. marked_in v.within.now i
    && list_any (λ k. opens_to circuit (waves_of v.waves.now) l.net (slice_get circuit.instances k) i) (take l.reader-index (readers_of circuit.instances l.net)))
    l.initial.self l.self
