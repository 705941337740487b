use Rattle.window_law.proofs.Finite.{window_refutes as law}
use Rattle.window_law.proofs.laws.window_refutes.Goals as goal

pub returns : goal.returns
returns c = law
