use Rattle.window_law.proofs.Finite.{low_window_refutes as law}
use Rattle.window_law.proofs.laws.low_window_refutes.Goals as goal

pub returns : goal.returns
returns c = law
