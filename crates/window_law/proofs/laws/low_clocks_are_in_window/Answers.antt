use Rattle.window_law.proofs.Finite.{low_clocks_are_in_window as law}
use Rattle.window_law.proofs.laws.low_clocks_are_in_window.Goals as goal

pub returns : goal.returns
returns c = law
