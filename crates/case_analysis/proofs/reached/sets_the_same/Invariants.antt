use Rattle.std.proofs.Common.{◌≡◌, take}
use Rattle.case_analysis.specs.Reached.{nets_set}
use Rattle.case_analysis.proofs.reached.sets_the_same.Given as goal

abbrev pub invariant-loop-place : goal.invariant-loop-place
invariant-loop-place l = nets_set (take l.place l.one) ≡ nets_set (take l.place l.other)
