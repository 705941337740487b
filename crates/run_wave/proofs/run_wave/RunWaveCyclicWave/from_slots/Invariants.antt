use Rattle.std.proofs.Common.{◌≡◌, take}
use Rattle.run_wave.specs.Run.{cells_of}
use Rattle.run_wave.proofs.run_wave.RunWaveCyclicWave.from_slots.Given as goal

abbrev pub invariant-loop-cell : goal.invariant-loop-cell
invariant-loop-cell g l = cells_of l.list.runs.items ≡ take l.cell-index l.slots
