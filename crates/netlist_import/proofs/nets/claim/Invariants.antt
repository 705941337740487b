use Rattle.std.proofs.Common.{◌≡◌, drop}
use Rattle.netlist_import.specs.Nets.{numbered_from, with_bits}
use Rattle.netlist_import.proofs.nets.claim.Given as goal

abbrev pub invariant-loop-index : goal.invariant-loop-index
invariant-loop-index l =
    with_bits l.net (numbered_from 0 l.bits) l.initial.places
    ≡ with_bits l.net (numbered_from l.index (drop l.index l.bits)) l.places
