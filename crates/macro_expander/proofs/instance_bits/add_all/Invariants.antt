use Rattle.std.proofs.Common.{◌≡◌, ◌++◌, map, take}
use Rattle.macro_expander.specs.Numbered.{pin_ref}
use Rattle.macro_expander.proofs.instance_bits.add_all.Given as goal

abbrev pub invariant-loop-bit : goal.invariant-loop-bit
invariant-loop-bit l = l.pins ≡ l.fn.pins ++ map (pin_ref l.connection.hold) (take l.bit-index l.bits)
