use Rattle.pin_waves.proofs.MeetsLaws.{next_period}
use Rattle.pin_waves.proofs.laws.next_period_keeps.Goals as goal

pub returns : goal.returns
returns c = λ h a n x meets. next_period h a n x meets
