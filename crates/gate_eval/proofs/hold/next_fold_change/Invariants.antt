use Rattle.std.proofs.Common.{◌≡◌, ◌<◌, ◌≤◌, ℕ, map, take}
use Rattle.step_values.specs.Cell.{values}
use Rattle.skew_algebra.specs.Wave.{fold}
use Rattle.gate_eval.proofs.hold.next_fold_change.Given as goal

abbrev pub invariant-loop-pin : goal.invariant-loop-pin
invariant-loop-pin g l = record {
  behind : l.slot < l.next;
  within : l.next ≤ l.period;
  same : (p : ℕ) → l.slot ≤ p → p < l.next →
      map (λ q. fold values q.wave p) (take l.pin-index l.pins)
      ≡ map (λ q. fold values q.wave l.slot) (take l.pin-index l.pins);
}
