use Rattle.std.proofs.Common.{◌≡◌, ◌+◌, drop}
use Rattle.netlist_import.specs.Offset.{offset}
use Rattle.netlist_import.specs.declared.offset.Within.TheVariants.{Between}
use Rattle.netlist_import.specs.declared.offset.Parting.TheVariants.{Never}
use Rattle.netlist_import.proofs.offset.offset_of.Given as goal

abbrev pub invariant-loop-at : goal.invariant-loop-at
invariant-loop-at l =
    offset Between Never l.token l.text ≡ l.at + offset l.within l.after l.left (drop l.at l.text)
