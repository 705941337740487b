use Rattle.std.proofs.Common.{◌≡◌, true}
use Rattle.macro_expander.proofs.Standing.{stop_at}
use Rattle.macro_expander.proofs.laws.stops_at_places.Goals as goal

pub returns : goal.returns
returns c = λ d r stop test each. stop_at (λ p. test p ≡ true) d r each stop
