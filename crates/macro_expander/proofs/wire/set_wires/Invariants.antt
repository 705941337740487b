use Rattle.std.proofs.Common.{map, drop}
use Rattle.macro_expander.specs.Flat.{with_wires}
use Rattle.macro_expander.specs.Numbered.{WiredSoFar, bit_of, names_in, state_of}
use Rattle.macro_expander.proofs.wire.set_wires.Given as goal

abbrev pub invariant-loop-bit : goal.invariant-loop-bit
invariant-loop-bit l =
    let names = names_in l.fn.expansion in
    WiredSoFar l.fn.expansion l.expansion (with_wires l.wire (map (bit_of names) (drop l.bit-index l.bits)) (state_of l.expansion))
    (with_wires l.wire (map (bit_of names) l.bits) (state_of l.fn.expansion))
