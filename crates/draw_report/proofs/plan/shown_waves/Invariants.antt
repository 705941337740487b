use Rattle.std.proofs.Common.{◌≡◌, map, take}
use Rattle.fixpoint_engine.specs.Waves.{waves_of}
use Rattle.draw_report.specs.Plan.{shown_wave}
use Rattle.draw_report.proofs.plan.shown_waves.Given as goal

abbrev pub invariant-loop-one : goal.invariant-loop-one
invariant-loop-one g l =
    l.some ≡ map (shown_wave l.c (waves_of l.waves)) (take l.one-index l.shown)
