use Rattle.std.proofs.Common.{◌≡◌, ◌++◌, length}
use Rattle.netlist_import.specs.Body.{runs_from, runs_text}
use Rattle.netlist_import.proofs.text.add_runs.Given as goal

abbrev pub invariant-bits : goal.invariant-bits
invariant-bits l =
    l.initial.out ++ runs_text l.nets (runs_from l.fn.first l.rest)
    ≡ l.out ++ runs_text l.nets (runs_from l.run l.left)

abbrev pub decreases-bits : goal.decreases-bits
decreases-bits l = length l.left
