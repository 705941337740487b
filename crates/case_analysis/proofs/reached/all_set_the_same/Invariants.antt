use Rattle.std.proofs.Common.{◌≡◌, take}
use Rattle.std.specs.List.{All}
use Rattle.case_analysis.specs.Reached.{nets_set}
use Rattle.case_analysis.proofs.reached.all_set_the_same.Given as goal

abbrev pub invariant-loop-case : goal.invariant-loop-case
invariant-loop-case l = All (λ case. nets_set l.first ≡ nets_set case) (take l.case-index l.cases)
