use Rattle.std.proofs.Common.{◌≡◌, length, vec_len}
use Rattle.fixpoint_engine.specs.Worklist.{IsQueue}
use Rattle.drawing_notes.proofs.found.Found.clear.Given as goal

abbrev pub invariant-loop-net : goal.invariant-loop-net
invariant-loop-net l = record {
  queue : IsQueue (record { nets = l.self-inside.nets.items; marks = l.self-inside.marks });
  each_net : length l.self-inside.marks ≡ length l.initial.self-inside.marks;
}

abbrev pub decreases-loop-net : goal.decreases-loop-net
decreases-loop-net l = vec_len l.self-inside.nets
