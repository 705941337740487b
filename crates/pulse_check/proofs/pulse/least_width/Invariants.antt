use Rattle.std.proofs.Common.{ℕ, ◌-◌, ◌<◌, ◌≤◌}
use Rattle.fixpoint_engine.specs.Pins.{read}
use Rattle.pulse_check.proofs.Narrow.{GoesOn}
use Rattle.pulse_check.proofs.pulse.least_width.Given as goal

abbrev pub invariant-runs : goal.invariant-runs
invariant-runs g l = record {
  begun : 1 ≤ l.width;
  goes_on : (k : ℕ) → k < l.width → 1 ≤ k → GoesOn l.level (read (g.W.CyclicWave.cells l.wave)) l.start k;
}

abbrev pub decreases-runs : goal.decreases-runs
decreases-runs g l = l.limit - l.width
