use Rattle.netlist_import.proofs.Grown.{told_apart}
use Rattle.netlist_import.proofs.laws.bits_are_told_apart.Goals as goal

pub returns : goal.returns
returns c = told_apart
