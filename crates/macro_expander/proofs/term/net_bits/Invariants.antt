use Rattle.std.proofs.Common.{◌++◌, drop}
use Rattle.macro_expander.specs.Terms.{net_bit, net_bits}
use Rattle.macro_expander.specs.Numbered.{Gathered, state_of}
use Rattle.macro_expander.proofs.term.net_bits.Given as goal

abbrev pub invariant-loop-number : goal.invariant-loop-number
invariant-loop-number l = Gathered (net_bit (l.path ++ l.base) l.spec l.place) l.fn.expansion
    (net_bits (l.path ++ l.base) l.spec l.place l.numbers (state_of l.fn.expansion)) (drop l.number-index l.numbers) l.bits l.expansion
