use Rattle.pin_waves.proofs.MeetsLaws.{ideal_precision}
use Rattle.pin_waves.proofs.laws.ideal_keeps_precision.Goals as goal

pub returns : goal.returns
returns c = λ h clock n pos. ideal_precision h clock n pos
