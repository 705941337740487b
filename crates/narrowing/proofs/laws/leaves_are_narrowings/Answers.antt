use Rattle.narrowing.proofs.Covering.{leaves_are_narrowings as law}
use Rattle.narrowing.proofs.laws.leaves_are_narrowings.Goals as goal

pub returns : goal.returns
returns c = law
