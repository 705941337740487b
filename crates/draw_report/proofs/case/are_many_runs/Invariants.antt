use Rattle.std.proofs.Common.{◌≡◌, ◌-◌, ◌^◌, take}
use Rattle.std.specs.Prelude.{min}
use Rattle.draw_report.specs.Picture.{run_count}
use Rattle.draw_report.proofs.case.are_many_runs.Given as goal

abbrev pub invariant-loop-wave : goal.invariant-loop-wave
invariant-loop-wave g l = l.runs ≡ min (run_count l.count (take l.wave-index l.waves)) (2 ^ 64 - 1)
