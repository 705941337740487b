use Rattle.std.proofs.Common.{take}
use Rattle.std.specs.List.{AllZip, zip}
use Rattle.wave_core.proofs.slot_wave.SlotWaveCyclicWave.zip.Given as goal

abbrev pub invariant-loop-slot : goal.invariant-loop-slot
invariant-loop-slot g l =
    AllZip (λ p d. g.F.Fn.post l.f (p.0, (p.1, tt)) d) (take l.slot (zip l.self.cells.items l.other.cells.items)) l.cells.items
