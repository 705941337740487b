use Rattle.std.proofs.Common.{◌≤◌, take}
use Rattle.std.specs.List.{All}
use Rattle.run_wave.proofs.run_list.RunList.are_wide.Given as goal

abbrev pub invariant-loop-run : goal.invariant-loop-run
invariant-loop-run g l = All (λ r. l.width ≤ r.width) (take l.run-index l.self.runs.items)
