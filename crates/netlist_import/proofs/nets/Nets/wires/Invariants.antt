use Rattle.std.proofs.Common.{◌≡◌, ◌≤◌, ◌++◌, length, take, reverse}
use Rattle.netlist_import.specs.Nets.{stand_along}
use Rattle.netlist_import.proofs.nets.Nets.wires.Given as goal

abbrev pub invariant-loop-left : goal.invariant-loop-left
invariant-loop-left l = record {
  within : l.left ≤ length l.bits;
  first :
      (stand_along (reverse l.bits) l.initial.self).0
      ≡ l.wires ++ (stand_along (reverse (take l.left l.bits)) l.self).0;
  then_nets :
      (stand_along (reverse l.bits) l.initial.self).1
      ≡ (stand_along (reverse (take l.left l.bits)) l.self).1;
}

abbrev pub decreases-loop-left : goal.decreases-loop-left
decreases-loop-left l = l.left
