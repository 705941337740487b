use Rattle.std.proofs.Common.{◌-◌, length}
use Rattle.fixpoint_engine.specs.Pins.{read}
use Rattle.pulse_check.proofs.Narrow.{NoStart}
use Rattle.pulse_check.proofs.pulse.next_start.Given as goal

abbrev pub invariant-runs : goal.invariant-runs
invariant-runs g l = NoStart l.level (read (g.W.CyclicWave.cells l.wave)) l.from (length (g.W.CyclicWave.cells l.wave)) l.slot

abbrev pub decreases-runs : goal.decreases-runs
decreases-runs g l = length (g.W.CyclicWave.cells l.wave) - l.slot
