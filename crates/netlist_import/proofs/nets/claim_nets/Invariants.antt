use Rattle.std.proofs.Common.{◌≡◌, ◌+◌, drop}
use Rattle.netlist_import.specs.Nets.{net_vectors, with_vectors}
use Rattle.netlist_import.proofs.nets.claim_nets.Given as goal

abbrev pub invariant-loop-place : goal.invariant-loop-place
invariant-loop-place l =
    with_vectors (net_vectors l.is_hidden l.first l.nets) l.initial.places
    ≡ with_vectors (net_vectors l.is_hidden (l.first + l.place) (drop l.place l.nets))
    l.places
