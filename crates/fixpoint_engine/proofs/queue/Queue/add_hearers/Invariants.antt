use Rattle.std.proofs.Common.{◌&&◌, take}
use Rattle.std.specs.List.{list_any}
use Rattle.flat_circuit.specs.Instances.{out_at, readers_of}
use Rattle.fixpoint_engine.specs.Members.{is_evaluated}
use Rattle.fixpoint_engine.specs.Worklist.{Adds, drives_in}
use Rattle.fixpoint_engine.proofs.queue.Queue.add_hearers.Given as goal

abbrev pub invariant-loop-reader : goal.invariant-loop-reader
invariant-loop-reader l =
    Adds (λ i. is_evaluated l.active l.classes i && list_any (λ k. drives_in (out_at l.c.instances k) i) (take l.reader-index (readers_of l.c.instances l.net))) l.initial.self l.self
