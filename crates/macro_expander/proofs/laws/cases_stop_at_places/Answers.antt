use Rattle.std.proofs.Common.{◌≡◌, true}
use Rattle.macro_expander.proofs.Standing.{cases_at}
use Rattle.macro_expander.proofs.laws.cases_stop_at_places.Goals as goal

pub returns : goal.returns
returns c = λ d s r e test each. cases_at (λ p. test p ≡ true) s d r each e
