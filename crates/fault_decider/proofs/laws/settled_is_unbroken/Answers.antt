use Rattle.fault_decider.proofs.Settling.{settled_is_unbroken as law}
use Rattle.fault_decider.proofs.laws.settled_is_unbroken.Goals as goal

pub returns : goal.returns
returns c = law
