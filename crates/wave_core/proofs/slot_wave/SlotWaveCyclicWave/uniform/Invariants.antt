use Rattle.std.proofs.Common.{◌≡◌}
use Rattle.wave_core.specs.Slots.{slots}
use Rattle.wave_core.proofs.slot_wave.SlotWaveCyclicWave.uniform.Given as goal

abbrev pub invariant-loop-slot : goal.invariant-loop-slot
invariant-loop-slot g l = l.cells.items ≡ slots l._slot (λ p. l.cell)
