use Rattle.netlist_import.proofs.Worded.{cells_worded}
use Rattle.netlist_import.proofs.laws.cells_declare_words.Goals as goal

pub returns : goal.returns
returns c = cells_worded
