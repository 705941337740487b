-- Nets by their places in the order of names, and instances by their numbers.
use Rattle.std.proofs.Common.{◌≡◌, ℕ, zero, suc, List, [], ◌∷◌, length, get_or, refl, subst, ◌∙◌, slice_get, Some, None}
use Rattle.std.specs.List.{range_with_len}
use Rattle.std.proofs.lemmas.Option.{get_or_from_slice_get, slice_get_within}
use Rattle.std.proofs.lemmas.List.{length-map}
use Rattle.std.proofs.lemmas.List.FromFn.{length-range_with_len}
use Rattle.std.proofs.lemmas.List.Sorted.{length_permutation}
use Rattle.flat_circuit.specs.declared.instance.Instance.{Instance}
use Rattle.flat_circuit.specs.declared.net.Net.{Net}
use Rattle.flat_circuit.specs.Name.{IsNameOrder}
use Rattle.flat_circuit.specs.Instances.{InstanceFits}
use Rattle.flat_circuit.specs.Circuit.{Circuit, IsCircuit, net_name, net_names}

-- ---- places in the order of names

pub past_last : (xs : List ℕ) (i : ℕ) → slice_get xs i ≡ None → get_or xs i 0 ≡ 0
past_last [] i none = refl
past_last (x ∷ xs) zero none = cc
past_last (x ∷ xs) (suc i) none = past_last xs i none

pub at_place : (xs : List ℕ) (i x : ℕ) → slice_get xs i ≡ Some x → get_or xs i 0 ≡ x
at_place [] i x is = cc
at_place (y ∷ xs) zero x is = cc
at_place (y ∷ xs) (suc i) x is = at_place xs i x is

-- as many places in the order as nets
pub order_long : (nets : List Net) (order : List ℕ) → IsNameOrder (net_names nets) order → length order ≡ length nets
order_long nets order named =
    length_permutation (range_with_len 0 (length (net_names nets))) order named.each
    ∙ length-range_with_len 0 (length (net_names nets)) ∙ length-map nets net_name

-- ---- the instance of a number

pub fits_of : (c : Circuit) (k : ℕ) (j : Instance) → IsCircuit c → slice_get c.instances k ≡ Some j → InstanceFits c.header (length c.nets) j
fits_of c k j known is =
    subst (InstanceFits c.header (length c.nets)) (get_or_from_slice_get c.instances k j j is)
    (known.each k j (slice_get_within c.instances k j is))
