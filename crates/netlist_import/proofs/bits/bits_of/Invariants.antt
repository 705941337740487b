use Rattle.std.proofs.Common.{◌≡◌, map, take}
use Rattle.netlist_import.specs.Bits.{bit_or_undriven}
use Rattle.netlist_import.specs.Placed.{placed_of}
use Rattle.netlist_import.proofs.bits.bits_of.Given as goal

abbrev pub invariant-loop-item : goal.invariant-loop-item
invariant-loop-item l = l.bits ≡ map bit_or_undriven (map placed_of (take l.item-index l.items))
