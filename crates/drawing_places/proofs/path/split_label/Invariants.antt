use Rattle.std.proofs.Common.{◌-◌, ◌≤◌, length}
use Rattle.drawing_places.proofs.Paths.{IsLabelled, IsPassed}
use Rattle.drawing_places.proofs.path.split_label.Given as goal

abbrev pub decreases-loop-end : goal.decreases-loop-end
decreases-loop-end l = length l.scope - l.end

abbrev pub invariant-loop-end : goal.invariant-loop-end
invariant-loop-end l = IsLabelled l.scope l.end × (l.end ≤ length l.scope)

abbrev pub decreases-loop-slash : goal.decreases-loop-slash
decreases-loop-slash l = length l.scope - l.slash

abbrev pub invariant-loop-slash : goal.invariant-loop-slash
invariant-loop-slash l = IsPassed l.scope l.end l.slash × (l.end ≤ l.slash) × (l.slash ≤ length l.scope)
