use Rattle.timing_analysis.proofs.OneText.{text_draws_one_circuit}
use Rattle.timing_analysis.proofs.circuit_laws.text_draws_one_circuit.Goals as goal

pub returns : goal.returns
returns c = text_draws_one_circuit
