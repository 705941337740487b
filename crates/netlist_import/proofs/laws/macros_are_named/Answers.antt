use Rattle.netlist_import.proofs.GoodNames.{macros_named}
use Rattle.netlist_import.proofs.laws.macros_are_named.Goals as goal

pub returns : goal.returns
returns c = macros_named
