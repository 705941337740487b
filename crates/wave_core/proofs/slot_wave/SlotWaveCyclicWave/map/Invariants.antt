use Rattle.std.proofs.Common.{take}
use Rattle.std.specs.List.{AllZip}
use Rattle.wave_core.proofs.slot_wave.SlotWaveCyclicWave.map.Given as goal

abbrev pub invariant-loop-cell : goal.invariant-loop-cell
invariant-loop-cell g l = AllZip (λ c d. g.F.Fn.post l.f (c, tt) d) (take l.cell-index l.self.cells.items) l.cells.items
