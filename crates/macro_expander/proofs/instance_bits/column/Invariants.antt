use Rattle.std.proofs.Common.{◌≡◌, map, take}
use Rattle.macro_expander.specs.Numbered.{column_ref}
use Rattle.macro_expander.proofs.instance_bits.column.Given as goal

abbrev pub invariant-loop-connection : goal.invariant-loop-connection
invariant-loop-connection l = l.pins ≡ map (column_ref l.k) (take l.connection-index l.ins)
