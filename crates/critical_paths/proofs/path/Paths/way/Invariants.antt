use Rattle.std.proofs.Common.{◌≡◌, ◌-◌, ◌++◌}
use Rattle.critical_paths.specs.Known.{nodes_on, way_of}
use Rattle.critical_paths.proofs.path.Paths.way.Given as goal

abbrev pub invariant-loop : goal.invariant-loop
invariant-loop l = l.way ++ nodes_on l.self.nodes (l.end - l.counter) l.next
    ≡ way_of l.self.nodes l.number
