use Rattle.std.proofs.Common.{◌≡◌, ◌<◌, ◌+◌, ℕ, false}
use Rattle.scald_base.specs.Time.{period}
use Rattle.scald_base.specs.Clock.{back}
use Rattle.trace_sim.specs.Input.{is_edge}
use Rattle.trace_sim.proofs.input.is_near.Given as goal

abbrev pub invariant-loop-by : goal.invariant-loop-by
invariant-loop-by l = (k : ℕ) → k < l.by → is_edge l.clock l.h l.to (back (period l.h) (l.slot + l.skew.0) k) ≡ false
