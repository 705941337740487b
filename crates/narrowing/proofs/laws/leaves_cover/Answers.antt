use Rattle.narrowing.proofs.Covering.{leaves_cover as law}
use Rattle.narrowing.proofs.laws.leaves_cover.Goals as goal

pub returns : goal.returns
returns c = law
