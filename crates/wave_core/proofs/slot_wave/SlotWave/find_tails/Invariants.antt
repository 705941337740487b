use Rattle.std.proofs.Common.{◌≡◌, ◌+◌}
use Rattle.wave_core.specs.Slots.{slots}
use Rattle.wave_core.specs.Fold.{tail}
use Rattle.wave_core.proofs.slot_wave.SlotWave.find_tails.Given as goal

abbrev pub invariant-loop-n : goal.invariant-loop-n
invariant-loop-n g l = record {
  so_far : l.tails.items ≡ slots (l.n + 1) (tail g.T.Cell.kind l.self.cells.items l.back l.from);
  last : l.joined ≡ tail g.T.Cell.kind l.self.cells.items l.back l.from l.n;
}
