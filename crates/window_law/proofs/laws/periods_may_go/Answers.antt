use Rattle.window_law.proofs.Finite.{periods_may_go as law}
use Rattle.window_law.proofs.laws.periods_may_go.Goals as goal

pub returns : goal.returns
returns c = law
