use Rattle.critical_paths.proofs.Linked.{paths_are_events as law}
use Rattle.critical_paths.proofs.laws.paths_are_events.Goals as goal

pub returns : goal.returns
returns c = law
