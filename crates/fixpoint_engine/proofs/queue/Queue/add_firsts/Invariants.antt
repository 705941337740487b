use Rattle.std.proofs.Common.{◌&&◌, take}
use Rattle.fixpoint_engine.specs.Hearers.{row_of}
use Rattle.fixpoint_engine.specs.Settled.{marked_in}
use Rattle.fixpoint_engine.specs.Worklist.{Adds, among}
use Rattle.fixpoint_engine.proofs.queue.Queue.add_firsts.Given as goal

abbrev pub invariant-loop-net : goal.invariant-loop-net
invariant-loop-net l = Adds (λ i. marked_in l.active i && among (take l.net-index (row_of l.hearers l.first)) i) l.initial.self l.self
