use Rattle.flat_circuit.proofs.Splits.{every_tick as law}
use Rattle.flat_circuit.proofs.split.every_tick_counts.Goals as goal

pub returns : goal.returns
returns c = law
