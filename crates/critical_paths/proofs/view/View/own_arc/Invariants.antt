use Rattle.std.proofs.Common.{◌≡◌, ℕ, ◌<◌, None}
use Rattle.scald_base.specs.Time.{period}
use Rattle.fixpoint_engine.specs.Waves.{waves_of}
use Rattle.critical_paths.specs.Unfolded.{open_arc}
use Rattle.critical_paths.specs.Views.{end_asked}
use Rattle.critical_paths.proofs.view.View.own_arc.Given as goal

-- no delay so far has a cause
abbrev pub invariant-loop-by : goal.invariant-loop-by
invariant-loop-by g l =
    (n : ℕ) → n < l.by →
    open_arc l.self.circuit.now (waves_of l.self.waves.now) l.asked.element.now
    (end_asked (period l.self.circuit.now.header) l.asked l.delay) l.place n ≡ None
