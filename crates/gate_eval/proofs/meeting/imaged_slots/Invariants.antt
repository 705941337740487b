use Rattle.std.proofs.Common.{◌≡◌, ◌-◌, ◌≤◌, map}
use Rattle.wave_core.specs.Slots.{slots}
use Rattle.step_values.specs.Cell.{values}
use Rattle.skew_algebra.specs.Wave.{cell_at}
use Rattle.gate_eval.proofs.meeting.imaged_slots.Given as goal

abbrev pub invariant-changes : goal.invariant-changes
invariant-changes g l = record {
  so_far : l.cells.items ≡ slots l.slot (λ p. g.I.Image.value_of l.image (map (λ u. cell_at values (g.W.CyclicWave.cells u) p) l.waves));
  within : l.slot ≤ l.period;
}

abbrev pub decreases-changes : goal.decreases-changes
decreases-changes g l = l.period - l.slot
