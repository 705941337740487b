use Rattle.flat_circuit.proofs.Parts.{later_part_is_run as law}
use Rattle.flat_circuit.proofs.laws.later_parts_are_runs.Goals as goal

pub returns : goal.returns
returns c = law
