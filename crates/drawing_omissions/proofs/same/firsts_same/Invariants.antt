use Rattle.std.proofs.Common.{◌≡◌, map}
use Rattle.std.specs.List.{range_with_len}
use Rattle.drawing_omissions.specs.Same.{first_same}
use Rattle.drawing_omissions.proofs.same.firsts_same.Given as goal

abbrev pub invariant-loop-place : goal.invariant-loop-place
invariant-loop-place l = l.firsts.items ≡ map (first_same l.cases) (range_with_len 0 l.place)
