use Rattle.std.proofs.Common.{◌≡◌, drop}
use Rattle.macro_expander.specs.Outcome.{collected}
use Rattle.macro_expander.specs.Terms.{outer_bit, outer_bits}
use Rattle.macro_expander.proofs.scope.outer_bits.Given as goal

abbrev pub invariant-loop-number : goal.invariant-loop-number
invariant-loop-number l = collected (outer_bit l.bound.numbers l.bound.bits) l.bits (drop l.number-index l.chosen) ≡ outer_bits l.bound.numbers l.bound.bits l.chosen
