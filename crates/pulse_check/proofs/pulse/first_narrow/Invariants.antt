use Rattle.std.proofs.Common.{◌≡◌, ℕ, ◌-◌, ◌<◌, None, length}
use Rattle.fixpoint_engine.specs.Pins.{read}
use Rattle.pulse_check.specs.Pulse.{narrow_at}
use Rattle.pulse_check.proofs.pulse.first_narrow.Given as goal

abbrev pub invariant-starts : goal.invariant-starts
invariant-starts g l = (k : ℕ) → k < l.start → narrow_at l.level (read (g.W.CyclicWave.cells l.wave)) l.limit k ≡ None

abbrev pub decreases-starts : goal.decreases-starts
decreases-starts g l = length (g.W.CyclicWave.cells l.wave) - l.start
