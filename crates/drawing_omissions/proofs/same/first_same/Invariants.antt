use Rattle.std.proofs.Common.{◌≡◌, ◌<◌, ℕ, false}
use Rattle.drawing_omissions.specs.Same.{is_same_at}
use Rattle.drawing_omissions.proofs.same.first_same.Given as goal

abbrev pub invariant-loop-earlier : goal.invariant-loop-earlier
invariant-loop-earlier l = (j : ℕ) → j < l.earlier → is_same_at l.cases l.place j ≡ false
