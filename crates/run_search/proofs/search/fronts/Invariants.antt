use Rattle.std.proofs.Common.{◌≡◌, map, take}
use Rattle.run_search.proofs.search.fronts.Given as goal

abbrev pub invariant-loop-row : goal.invariant-loop-row
invariant-loop-row l = l.fronts ≡ map (take l.ticks) (take l.row-index l.rows)
