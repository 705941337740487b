use Rattle.std.proofs.Common.{◌≡◌, ℕ, ◌+◌, ◌<◌, not, ◌&&◌, true, false}
use Rattle.step_values.specs.Steps.{has, is_quiet}
use Rattle.fixpoint_engine.specs.Pins.{read}
use Rattle.slack_rows.proofs.width.is_repeated.Given as goal

-- none so far
abbrev pub invariant-loop-place : goal.invariant-loop-place
invariant-loop-place g l =
    (k : ℕ) → k < l.place →
    (has (read (g.W.CyclicWave.cells l.wave) (l.pulse.0 + k)) false true
    && (has (read (g.W.CyclicWave.cells l.wave) (l.pulse.0 + k)) true false
    && not (is_quiet (read (g.W.CyclicWave.cells l.wave) (l.pulse.0 + k + 1))))) ≡ false
