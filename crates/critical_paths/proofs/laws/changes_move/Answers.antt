use Rattle.critical_paths.proofs.Moving.{changes_move as law}
use Rattle.critical_paths.proofs.laws.changes_move.Goals as goal

pub returns : goal.returns
returns c = law
