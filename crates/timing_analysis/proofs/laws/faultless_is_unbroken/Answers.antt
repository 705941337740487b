use Rattle.timing_analysis.proofs.Headline.{faultless_is_unbroken}
use Rattle.timing_analysis.proofs.laws.faultless_is_unbroken.Goals as goal

pub returns : goal.returns
returns c = faultless_is_unbroken
