-- Nets at places in name order, and their names.
use Rattle.std.proofs.Common.{◌≡◌, ℕ, zero, suc, ◌<◌, List, [], ◌∷◌, length, map, Some, slice_get, arith}
use Rattle.std.proofs.lemmas.List.{length-map}
use Rattle.flat_circuit.specs.Circuit.{Circuit, IsCircuit, net_name, net_names}
use Rattle.flat_circuit.specs.Name.{Name, name_at, net_at}
use Rattle.flat_circuit.proofs.Names.{order_in}
use Rattle.flat_circuit.proofs.Numbered.{order_long}

pub net_inside : (c : Circuit) (place net : ℕ) → IsCircuit c → place < length c.nets →
    net ≡ net_at c.order place → net < length c.nets
net_inside c place net is within at =
    let named = is.by_name in
    let long = order_long c.nets c.order named in
    let all = length-map c.nets net_name in
    let inside = order_in (net_names c.nets) c.order place 0 named (omega (arith, long, within)) in
    omega (arith, inside, all, at)

-- the name of an item that is there
pub name_there : {X : Type 0} (f : X → Name) (xs : List X) (i : ℕ) (x : X) →
    Some x ≡ slice_get xs i → f x ≡ name_at (map f xs) i
name_there f [] i x is = absurd (cc)
name_there f (y ∷ xs) zero x is = cc
name_there f (y ∷ xs) (suc i) x is = name_there f xs i x is
