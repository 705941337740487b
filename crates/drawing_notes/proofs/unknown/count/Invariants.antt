use Rattle.std.proofs.Common.{take}
use Rattle.std.specs.List.{filter}
use Rattle.fixpoint_engine.specs.Waves.{waves_of}
use Rattle.drawing_notes.specs.Unknown.{IsCounted, has_unknown}
use Rattle.drawing_notes.proofs.unknown.count.Given as goal

abbrev pub invariant-loop-place : goal.invariant-loop-place
invariant-loop-place g l = IsCounted (filter (has_unknown (waves_of l.waves)) (take l.place l.c.order)) l.counted
