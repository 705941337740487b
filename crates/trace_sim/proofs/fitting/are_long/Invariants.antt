use Rattle.std.proofs.Common.{◌≡◌, All, Bool, List, length, take}
use Rattle.trace_sim.proofs.fitting.are_long.Given as goal

abbrev pub invariant-loop-row : goal.invariant-loop-row
invariant-loop-row l = All (λ (row : List Bool). length row ≡ l.ticks) (take l.row-index l.rows)
