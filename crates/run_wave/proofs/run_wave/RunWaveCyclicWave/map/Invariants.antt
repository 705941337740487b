use Rattle.std.proofs.Common.{take}
use Rattle.std.specs.List.{AllZip}
use Rattle.run_wave.specs.Run.{cells_of}
use Rattle.run_wave.proofs.run_wave.RunWaveCyclicWave.map.Given as goal

abbrev pub invariant-loop-run : goal.invariant-loop-run
invariant-loop-run g l = AllZip (λ c d. g.F.Fn.post l.f (c, tt) d) (cells_of (take l.run-index l.self.list.runs.items)) (cells_of l.list.runs.items)
