use Rattle.std.proofs.Common.{◌≡◌, ℕ, ◌<◌, false}
use Rattle.scald_base.specs.Time.{period}
use Rattle.fixpoint_engine.specs.Waves.{waves_of}
use Rattle.critical_paths.specs.Tick.{slot_of}
use Rattle.critical_paths.proofs.Backing.{sees}
use Rattle.critical_paths.proofs.view.View.behind.Given as goal

-- no wire so far shows the event
abbrev pub invariant-loop-by : goal.invariant-loop-by
invariant-loop-by g l =
    (n : ℕ) → n < l.by →
    sees l.self.circuit.now (waves_of l.self.waves.now) l.at.corner
    (slot_of (period l.self.circuit.now.header) l.at.tick)
    l.direction l.net n ≡ false
