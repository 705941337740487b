use Rattle.pin_waves.proofs.MeetsLaws.{front}
use Rattle.pin_waves.proofs.laws.front_keeps.Goals as goal

pub returns : goal.returns
returns c = λ h a m n x fewer meets. front h a m n x fewer meets
