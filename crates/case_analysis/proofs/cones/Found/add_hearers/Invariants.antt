use Rattle.std.proofs.Common.{take}
use Rattle.std.specs.List.{list_any}
use Rattle.flat_circuit.specs.Instances.{out_at, readers_of}
use Rattle.fixpoint_engine.specs.Worklist.{drives_in}
use Rattle.case_analysis.specs.Found.{Extends}
use Rattle.case_analysis.proofs.cones.Found.add_hearers.Given as goal

abbrev pub invariant-loop-reader : goal.invariant-loop-reader
invariant-loop-reader l =
    Extends (λ i. list_any (λ k. drives_in (out_at l.c.instances k) i) (take l.reader-index (readers_of l.c.instances l.net))) l.initial.self l.self
