use Rattle.critical_paths.proofs.Moving.{first_is_at_corner as law}
use Rattle.critical_paths.proofs.laws.first_is_at_corner.Goals as goal

pub returns : goal.returns
returns c = law
