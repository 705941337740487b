-- Places in lists.
use Rattle.std.proofs.Common.{◌≡◌, ℕ, ◌<◌, ◌||◌, Bool, true, false, All, List, [], ◌∷◌, length, get_or, refl, sym, ap, subst, ◌∙◌, arith}
use Rattle.std.specs.List.{range_with_len, Contains}
use Rattle.std.proofs.lemmas.Bool.{both_ways, eq-eqb}
use Rattle.std.proofs.lemmas.List.Elements.{All-head}
use Rattle.std.proofs.lemmas.List.Sorted.{Contains-permutation}
use Rattle.std.proofs.lemmas.List.FromFn.{length-range_with_len, get_or-range_with_len}
use Rattle.std.proofs.lemmas.List.{length-map, get_or_default}
use Rattle.flat_circuit.specs.declared.net.Net.{Net}
use Rattle.flat_circuit.specs.Name.{IsNameOrder, net_at}
use Rattle.flat_circuit.specs.Circuit.{net_name, net_names}
use Rattle.fixpoint_engine.specs.Worklist.{among}

pub All_read : {A : Type 0} (P : A → Type 0) (xs : List A) (k : ℕ) (x : A) → All P xs → k < length xs → x ≡ get_or xs k x → P x
All_read P xs k x all below is = subst P (sym is) (all k x below)

-- an item that is read with any other in its place past the end is read with itself there
pub own_default : {A : Type 0} (xs : List A) (k : ℕ) (d : A) → k < length xs → get_or xs k d ≡ get_or xs k (get_or xs k d)
own_default xs k d below = get_or_default xs k d (get_or xs k d) below

-- each net has a place in the order
placed : (nets : List Net) (order : List ℕ) (net : ℕ) → IsNameOrder (net_names nets) order → net < length nets → Contains order net
placed nets order net named below =
    let long : length (net_names nets) ≡ length nets = length-map nets net_name in
    let numbers = length-range_with_len 0 (length (net_names nets)) in
    Contains-permutation (range_with_len 0 (length (net_names nets))) order net named.each
    (net, omega (arith, long, numbers), get_or-range_with_len 0 (length (net_names nets)) net net (omega (arith, long)) ∙ omega arith)

-- If there is a net, the order has one.
pub some_named : (nets : List Net) (order some : List ℕ) (set : ℕ → Bool) → IsNameOrder (net_names nets) order → All (λ net. net < length nets) some → 0 < length some →
    ((i : ℕ) → set i ≡ among some i) → ((k : ℕ) → k < length order → set (net_at order k) ≡ false) → ⊥
some_named nets order [] set named exist any are none = omega arith
some_named nets order (net ∷ some) set named exist any are none =
    let at = placed nets order net named (All-head (λ n. n < length nets) net some exist) in
    let is : net_at order at.0 ≡ net = sym (get_or_default order at.0 net 0 at.1) ∙ at.2 in
    let here : set net ≡ true = are net ∙ (λ k. eq-eqb net net refl k || among some net) in
    both_ways (set net) (ap set (sym is) ∙ none at.0 at.1) here
