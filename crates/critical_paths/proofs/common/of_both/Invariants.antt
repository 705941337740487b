use Rattle.std.proofs.Common.{◌≡◌, ◌++◌, take, drop}
use Rattle.critical_paths.specs.Common.{of_both}
use Rattle.critical_paths.proofs.Counting.{left_of}
use Rattle.critical_paths.proofs.common.of_both.Given as goal

abbrev pub invariant-loop-place : goal.invariant-loop-place
invariant-loop-place l =
    l.twice ++ left_of l.other (take l.place l.own) (drop l.place l.own) ≡ of_both l.own l.other
