use Rattle.std.proofs.Common.{◌≡◌, ℕ, ◌-◌, ◌<◌, ◌≤◌, true, false, length}
use Rattle.trace_tool.specs.Variable.{precedes}
use Rattle.trace_tool.proofs.variable.first_from.Given as goal

abbrev pub invariant-loop-low : goal.invariant-loop-low
invariant-loop-low l = record {
  ordered : l.low ≤ l.high;
  within : l.high ≤ length l.c.nets;
  before : (k : ℕ) → k < l.low → precedes l.c k l.text ≡ true;
  after : (k : ℕ) → l.high ≤ k → k < length l.c.nets → precedes l.c k l.text ≡ false;
}

abbrev pub decreases-loop-low : goal.decreases-loop-low
decreases-loop-low l = l.high - l.low
