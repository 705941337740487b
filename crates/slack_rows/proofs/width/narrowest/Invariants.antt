use Rattle.std.proofs.Common.{length}
use Rattle.fixpoint_engine.specs.Pins.{read}
use Rattle.slack_rows.proofs.Narrowed.{IsNarrowestBelow}
use Rattle.slack_rows.proofs.width.narrowest.Given as goal

-- no other that was found is narrower
abbrev pub invariant-narrower : goal.invariant-narrower
invariant-narrower g l = IsNarrowestBelow (length (g.W.CyclicWave.cells l.wave)) l.level (read (g.W.CyclicWave.cells l.wave)) l.limit l.best

abbrev pub decreases-narrower : goal.decreases-narrower
decreases-narrower g l = l.limit
