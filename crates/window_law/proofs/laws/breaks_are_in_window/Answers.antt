use Rattle.window_law.proofs.Finite.{breaks_are_in_window as law}
use Rattle.window_law.proofs.laws.breaks_are_in_window.Goals as goal

pub returns : goal.returns
returns c = law
