use Rattle.critical_paths.proofs.Moving.{last_is_at_corner as law}
use Rattle.critical_paths.proofs.laws.last_is_at_corner.Goals as goal

pub returns : goal.returns
returns c = law
