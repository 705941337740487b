-- The order of names.
use Rattle.std.proofs.Common.{◌≡◌, ℕ, zero, suc, ◌<◌, ◌≤◌, List, [], ◌∷◌, length, get_or, refl, subst, ◌∙◌, arith, inl, inr}
use Rattle.std.specs.Prelude.{◌⊎◌}
use Rattle.std.specs.List.{Contains, range_with_len}
use Rattle.std.specs.List.Sorted.{IsPartitionPoint, IsNonDecreasingBy}
use Rattle.std.specs.declared.cmp.Ordering.{Ordering}
use Rattle.std.specs.declared.cmp.Ordering.TheVariants.{Less, Equal, Greater}
use Rattle.std.specs.Ordering.{ordering_then, nat_cmp, ordering_index}
use Rattle.std.specs.Cmp.{IsTotalOrder}
use Rattle.std.specs.Cmp.Lexicographic.{slice_cmp}
use Rattle.std.proofs.lemmas.Cmp.{then_total, on_total, nat_list_cmp_total, nat_cmp_total, tied_itself}
use Rattle.std.proofs.lemmas.Bool.Decides.{nat_tests}
use Rattle.std.proofs.lemmas.List.FromFn.{length-range_with_len, get_or-range_with_len}
use Rattle.std.proofs.lemmas.List.Sorted.{All-permutation, Contains-permutation, searchable_from_sorted}
use Rattle.std.proofs.lemmas.List.Elements.{All-from_get_or, All-get_or}
use Rattle.flat_circuit.specs.Name.{Name, name_cmp, name_at, IsNameOrder}

pub name_cmp_total : IsTotalOrder name_cmp
name_cmp_total = then_total (on_total (λ (n : Name). n.text) nat_list_cmp_total) (on_total (λ (n : Name). n.bit) nat_cmp_total)

then_equal : (a b : Ordering) → ordering_then a b ≡ Equal → (a ≡ Equal) × (b ≡ Equal)
then_equal Less b h = absurd (cc)
then_equal Equal b h = (refl, h)
then_equal Greater b h = absurd (cc)

nat_cmp_is : (a b : ℕ) → nat_cmp a b ≡ Equal → a ≡ b
nat_cmp_is a b h = grind (arith, nat_tests)

cmp_is : (xs ys : List ℕ) → slice_cmp nat_cmp xs ys ≡ Equal → xs ≡ ys
cmp_is [] [] h = refl
cmp_is [] (y ∷ ys) h = absurd (cc)
cmp_is (x ∷ xs) [] h = absurd (cc)
cmp_is (x ∷ xs) (y ∷ ys) h =
    let p = then_equal (nat_cmp x y) (slice_cmp nat_cmp xs ys) h in
    let a = nat_cmp_is x y p.0 in
    let b = cmp_is xs ys p.1 in
    rw (a, b) refl

pub name_is : (a b : Name) → name_cmp a b ≡ Equal → a ≡ b
name_is a b h =
    let p = then_equal (slice_cmp nat_cmp a.text b.text) (nat_cmp a.bit b.bit) h in
    let t = cmp_is a.text b.text p.0 in
    let i = nat_cmp_is a.bit b.bit p.1 in
    grind arith

-- each number stands somewhere in the order
pub order_in : (ns : List Name) (order : List ℕ) (at d : ℕ) → IsNameOrder ns order → at < length order → get_or order at d < length ns
order_in ns order at d o l =
    All-get_or (λ i. i < length ns) order at
    d l (All-permutation (λ i. i < length ns) (range_with_len 0 (length ns)) order
    o.each (All-from_get_or (λ i. i < length ns) (range_with_len 0 (length ns)) 0 (λ i h. let m =
    length-range_with_len 0 (length ns) in let b : i < length ns = omega arith in rw (get_or-range_with_len 0 (length ns) i 0 b) (omega arith))))

pub order_has : (ns : List Name) (order : List ℕ) (i : ℕ) → IsNameOrder ns order → i < length ns → Contains order i
order_has ns order i o h = Contains-permutation (range_with_len 0 (length ns)) order i o.each (i, rw (length-range_with_len 0 (length ns)) h, get_or-range_with_len 0 (length ns) i i h ∙ omega arith)

pub rises : (ns : List Name) (order : List ℕ) (want : Name) → IsNameOrder ns order → IsNonDecreasingBy (λ i. ordering_index (name_cmp (name_at ns i) want)) order
rises ns order want o = searchable_from_sorted name_cmp_total (name_at ns) order want o.sorted

pub below : (a b : ℕ) → (a < b) ⊎ (b ≤ a)
below a zero = inr (omega arith)
below zero (suc b) = inl (omega arith)
below (suc a) (suc b) = elim (below a b) as (λ _. (suc a < suc b) ⊎ (suc b ≤ suc a)) [ inl l ↦ inl (omega arith) | inr l ↦ inr (omega arith) ]

pub not_there : (ns : List Name) (order : List ℕ) (want : Name) (at : ℕ) → IsNameOrder ns order → IsPartitionPoint (λ i. name_cmp (name_at ns i) want
    ≡ Less) (λ i. name_cmp (name_at ns i) want ≡ Greater) order at → (i : ℕ) → i < length ns → name_at ns i ≡ want → ⊥
not_there ns order want at o p i h e =
    let c = order_has ns order i o h in
    let t : name_cmp (name_at ns i) want ≡ Equal = rw e (tied_itself name_cmp_total want) in
    elim (below c.0 at) as (λ _. ⊥) [
      | inl l ↦ let x : name_cmp (name_at ns i) want ≡ Less = subst (λ z. name_cmp (name_at ns z) want ≡ Less) c.2 (p.0 c.0 i (omega arith) l) in absurd (cc)
      | inr l ↦ let x : name_cmp (name_at ns i) want ≡ Greater = subst (λ z. name_cmp (name_at ns z) want ≡ Greater) c.2 (p.1 c.0 i l c.1) in absurd (cc)
    ]
