use Rattle.std.proofs.Common.{◌≡◌, ◌≤◌, ◌-◌}
use Rattle.wave_core.specs.Slots.{folded}
use Rattle.run_wave.specs.Run.{cells_of}
use Rattle.run_wave.proofs.run_wave.RunWaveCyclicWave.fold.Given as goal

abbrev pub invariant-loop-reach : goal.invariant-loop-reach
invariant-loop-reach g l = record {
  so_far : cells_of l.wave.list.runs.items ≡ folded g.T.Cell.kind (cells_of l.self.list.runs.items) l.reach;
  within : l.reach ≤ l.back;
}

abbrev pub decreases-loop-reach : goal.decreases-loop-reach
decreases-loop-reach g l = l.back - l.reach
