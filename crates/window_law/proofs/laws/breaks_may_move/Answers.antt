use Rattle.window_law.proofs.MovedBreaks.{breaks_may_move as law}
use Rattle.window_law.proofs.laws.breaks_may_move.Goals as goal

pub returns : goal.returns
returns c = law
