use Rattle.timing_analysis.proofs.OneText.{one_refusal}
use Rattle.timing_analysis.proofs.circuit_laws.text_has_one_refusal.Goals as goal

pub returns : goal.returns
returns c = one_refusal
