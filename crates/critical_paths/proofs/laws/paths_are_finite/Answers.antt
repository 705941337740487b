use Rattle.critical_paths.proofs.Finite.{paths_are_finite as law}
use Rattle.critical_paths.proofs.laws.paths_are_finite.Goals as goal

pub returns : goal.returns
returns c = law
