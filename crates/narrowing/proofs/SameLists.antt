-- What lists have at their places, and options where they have something.
use Rattle.std.proofs.Common.{◌≡◌, ℕ, suc, ◌<◌, List, [], ◌∷◌, length, refl, arith, slice_get, sym, ◌∙◌, Some, subst, Option, IfSome}
use Rattle.std.specs.List.{All}
use Rattle.std.proofs.lemmas.List.Elements.{All-get_or}
use Rattle.std.proofs.lemmas.Option.{get_or_from_slice_get, slice_get_within}
use Rattle.flat_circuit.specs.Circuit.{Circuit, IsCircuit}
use Rattle.flat_circuit.proofs.Numbered.{order_long}

pub at_some : {X : Type 0} {o : Option X} (P : X → Type 0) {x : X} → o ≡ Some x → IfSome o P → P x
at_some P is holds = subst (λ o. IfSome o P) is holds

-- what holds of all holds of that at a place
pub at_number : {X : Type 0} (P : X → Type 0) (xs : List X) (i : ℕ) (x : X) → All P xs → slice_get xs i ≡ Some x → P x
at_number P xs i x all is =
    subst P (get_or_from_slice_get xs i x x is) (All-get_or P xs i x (slice_get_within xs i x is) all)

-- lists that have the same at each place
pub same_lists : {X : Type 0} (xs ys : List X) → length xs ≡ length ys →
    ((i : ℕ) → i < length xs → slice_get xs i ≡ slice_get ys i) → xs ≡ ys
same_lists [] [] long same = refl
same_lists [] (y ∷ ys) long same = absurd (omega arith)
same_lists (x ∷ xs) [] long same = absurd (omega arith)
same_lists (x ∷ xs) (y ∷ ys) long same =
    let first : Some x ≡ Some y = same 0 (omega arith) in
    let one : x ≡ y = cc in
    let rest : xs ≡ ys = same_lists xs ys (omega arith) (λ i below. same (suc i) (omega arith)) in
    cc

-- orders of as many nets
pub same_order : (c d : Circuit) → IsCircuit c → IsCircuit d → length c.nets ≡ length d.nets →
    ((i : ℕ) → i < length c.nets → slice_get c.order i ≡ slice_get d.order i) → c.order ≡ d.order
same_order c d is_c is_d long same =
    let long_c = order_long c.nets c.order is_c.by_name in
    let long_d = order_long d.nets d.order is_d.by_name in
    same_lists c.order d.order (long_c ∙ long ∙ sym long_d) (λ i below. same i (omega (arith, below, long_c)))
