use Rattle.timing_analysis.proofs.Placed.{refusals_are_placed}
use Rattle.timing_analysis.proofs.circuit_laws.refusals_are_placed.Goals as goal

pub returns : goal.returns
returns c = refusals_are_placed
