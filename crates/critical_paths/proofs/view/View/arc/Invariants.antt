use Rattle.std.proofs.Common.{◌≡◌, ℕ, ◌<◌, None}
use Rattle.scald_base.specs.Time.{period}
use Rattle.fixpoint_engine.specs.Waves.{waves_of}
use Rattle.critical_paths.specs.Path.{arc_inward}
use Rattle.critical_paths.specs.Tick.{slot_of}
use Rattle.critical_paths.proofs.view.View.arc.Given as goal

-- no delay so far has a cause
abbrev pub invariant-loop-by : goal.invariant-loop-by
invariant-loop-by g l =
    (n : ℕ) → n < l.by →
    arc_inward l.self.circuit.now
    (waves_of l.self.waves.now) l.asked.element.now l.asked.corner l.asked.direction
    (slot_of (period l.self.circuit.now.header) l.asked.tick) l.delay n ≡ None
