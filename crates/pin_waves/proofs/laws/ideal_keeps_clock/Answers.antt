use Rattle.pin_waves.proofs.MeetsLaws.{ideal_clock}
use Rattle.pin_waves.proofs.laws.ideal_keeps_clock.Goals as goal

pub returns : goal.returns
returns c = λ h clock n pos alone. ideal_clock h clock n pos alone
