use Rattle.std.proofs.Common.{◌≡◌, ◌≤◌, ◌-◌, Some, map}
use Rattle.std.specs.List.{range_with_len}
use Rattle.trace_sim.specs.Input.{bits_in, given_in}
use Rattle.trace_sim.proofs.input.given_row.Given as goal

abbrev pub invariant-loop-t : goal.invariant-loop-t
invariant-loop-t l = record {
  row : l.row ≡ map (given_in l.h l.value (Some l.net) l.by (bits_in l.free)) (range_with_len 0 l.t);
  before : 1 ≤ l.t → l.before ≡ given_in l.h l.value (Some l.net) l.by (bits_in l.free) (l.t - 1);
}
