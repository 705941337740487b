use Rattle.std.proofs.Common.{ℕ, ◌<◌}
use Rattle.step_values.specs.Cell.{values}
use Rattle.skew_algebra.specs.Wave.{IsNormal}
use Rattle.fixpoint_engine.specs.Waves.{waves_of}
use Rattle.slack_report.proofs.collected.known_waves.Given as goal

abbrev pub invariant-loop-net : goal.invariant-loop-net
invariant-loop-net g l = (i : ℕ) → i < l.net → IsNormal values (waves_of l.waves i)
