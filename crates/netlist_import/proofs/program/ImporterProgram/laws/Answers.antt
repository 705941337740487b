use Rattle.netlist_import.proofs.Lawful.{importer_is_lawful}
use Rattle.netlist_import.proofs.program.ImporterProgram.laws.Goals as goal

pub returns : goal.returns
returns c = importer_is_lawful
