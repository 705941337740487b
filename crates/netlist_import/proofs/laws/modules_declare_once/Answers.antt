use Rattle.netlist_import.proofs.Declared.{declared_once}
use Rattle.netlist_import.proofs.laws.modules_declare_once.Goals as goal

pub returns : goal.returns
returns c = declared_once
