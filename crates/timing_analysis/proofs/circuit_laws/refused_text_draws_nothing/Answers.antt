use Rattle.timing_analysis.proofs.OneText.{not_refused}
use Rattle.timing_analysis.proofs.circuit_laws.refused_text_draws_nothing.Goals as goal

pub returns : goal.returns
returns c = not_refused
