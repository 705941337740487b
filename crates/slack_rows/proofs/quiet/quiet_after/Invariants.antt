use Rattle.std.proofs.Common.{◌≡◌, ℕ, ◌+◌, ◌<◌, false}
use Rattle.fixpoint_engine.specs.Pins.{read}
use Rattle.critical_paths.specs.declared.direction.Direction.TheVariants.{Change}
use Rattle.critical_paths.specs.Event.{events}
use Rattle.slack_rows.proofs.quiet.quiet_after.Given as goal

-- no change so far
abbrev pub invariant-loop-place : goal.invariant-loop-place
invariant-loop-place g l =
    (k : ℕ) → k < l.place → events Change (read (g.W.CyclicWave.cells l.input)) (l.slot + 1 + k) ≡ false
