use Rattle.std.proofs.Common.{◌≡◌, ◌<◌, ◌≤◌, ℕ, map, take}
use Rattle.step_values.specs.Cell.{values}
use Rattle.skew_algebra.specs.Wave.{cell_at}
use Rattle.gate_eval.proofs.meeting.next_change.Given as goal

abbrev pub invariant-loop-wave : goal.invariant-loop-wave
invariant-loop-wave g l = record {
  behind : l.slot < l.next;
  within : l.next ≤ l.period;
  same : (p : ℕ) → l.slot ≤ p → p < l.next →
      map (λ w. cell_at values (g.W.CyclicWave.cells w) p) (take l.wave-index l.waves) ≡ map (λ w. cell_at values (g.W.CyclicWave.cells w) l.slot) (take l.wave-index l.waves);
}
