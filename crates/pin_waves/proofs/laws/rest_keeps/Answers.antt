use Rattle.pin_waves.proofs.MeetsLaws.{rest_of_constant}
use Rattle.pin_waves.proofs.laws.rest_keeps.Goals as goal

pub returns : goal.returns
returns c = λ h by n x meets. rest_of_constant h by n x meets
