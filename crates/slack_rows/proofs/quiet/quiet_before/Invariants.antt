use Rattle.std.proofs.Common.{◌≡◌, ℕ, ◌-◌, ◌<◌, false, length}
use Rattle.fixpoint_engine.specs.Pins.{read}
use Rattle.critical_paths.specs.declared.direction.Direction.TheVariants.{Change}
use Rattle.critical_paths.specs.Event.{events}
use Rattle.slack_rows.specs.Window.{ahead}
use Rattle.slack_rows.proofs.quiet.quiet_before.Given as goal

-- no change so far
abbrev pub invariant-loop-back : goal.invariant-loop-back
invariant-loop-back g l =
    (k : ℕ) → k < l.back →
    events Change (read (g.W.CyclicWave.cells l.input)) (ahead (length (g.W.CyclicWave.cells l.input)) l.slot - k) ≡ false
