use Rattle.std.proofs.Common.{◌≡◌, ◌≤◌, ◌++◌, map}
use Rattle.netlist_import.specs.Nets.{downwards}
use Rattle.netlist_import.specs.declared.nets.Wired.TheVariants as wired
use Rattle.netlist_import.proofs.nets.Nets.left_out.Given as goal

abbrev pub invariant-loop-index : goal.invariant-loop-index
invariant-loop-index l = record {
  within : l.index ≤ l.width;
  bits :
      map (λ i. wired.Bit (record { net = l.net; index = i })) (downwards l.width)
      ≡ l.wires ++ map (λ i. wired.Bit (record { net = l.net; index = i })) (downwards l.index);
}

abbrev pub decreases-loop-index : goal.decreases-loop-index
decreases-loop-index l = l.index
