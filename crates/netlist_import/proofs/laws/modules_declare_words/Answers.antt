use Rattle.netlist_import.proofs.Worded.{modules_worded}
use Rattle.netlist_import.proofs.laws.modules_declare_words.Goals as goal

pub returns : goal.returns
returns c = modules_worded
