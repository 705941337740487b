-- The places of nets in name order: each net has one.
use Rattle.std.proofs.Common.{◌≡◌, ◌≢◌, ℕ, zero, suc, ◌<◌, false, eqb, List, [], ◌∷◌, length, get_or, sym, subst, ◌∙◌, arith, zero-add, inl, inr, Some}
use Rattle.std.specs.Prelude.{slice_get}
use Rattle.std.specs.List.{All, AllByRecursion, IsDistinct, range_with_len}
use Rattle.std.specs.Bool.{one_answer}
use Rattle.std.proofs.lemmas.Bool.{cases_order, eqb-true, eq-eqb, false_from_ne_true}
use Rattle.std.proofs.lemmas.List.{length-map}
use Rattle.std.proofs.lemmas.List.FromFn.{get_or-range_with_len, length-range_with_len}
use Rattle.std.proofs.lemmas.List.Sorted.{All-permutation, IsPermutation-sym}
use Rattle.std.proofs.lemmas.Map.Keys.{IsDistinct-from_apart, IsDistinct-IsPermutation}
use Rattle.std.proofs.lemmas.Option.{get_or_from_slice_get, slice_get-get_or, slice_get_within}
use Rattle.flat_circuit.specs.Circuit.{Circuit, IsCircuit, net_name, net_names}

same_either_way : (x y : ℕ) → eqb x y ≡ eqb y x
same_either_way x y = one_answer (eqb x y) (eqb y x) (eqb-true x y, eq-eqb x y) (λ e. sym (eqb-true y x e), λ e. eq-eqb y x (sym e))

range_distinct : (n : ℕ) → IsDistinct eqb (range_with_len 0 n)
range_distinct n = IsDistinct-from_apart eqb (range_with_len 0 n) (λ i j d before below.
    let long = length-range_with_len 0 n in
    let first = get_or-range_with_len 0 n i d (omega arith) in
    let second = get_or-range_with_len 0 n j d (omega arith) in
    false_from_ne_true (eqb (get_or (range_with_len 0 n) i d) (get_or (range_with_len 0 n) j d)) (λ e.
    let same = eqb-true (get_or (range_with_len 0 n) i d) (get_or (range_with_len 0 n) j d) e in omega arith))

apart_at : (xs : List ℕ) → IsDistinct eqb xs → (i j : ℕ) → i < j → j < length xs → eqb (get_or xs i 0) (get_or xs j 0) ≡ false
unfolding IsDistinct
apart_at [] d i j before below = absurd (omega arith)
apart_at (x ∷ xs) d i zero before below = absurd (omega arith)
apart_at (x ∷ xs) d zero (suc j) before below = at_each xs d.0 j (omega arith)
  where
    at_each : (ys : List ℕ) → AllByRecursion (λ y. eqb x y ≡ false) ys → (j : ℕ) → j < length ys → eqb x (get_or ys j 0) ≡ false
    at_each [] a j below = absurd (omega arith)
    at_each (y ∷ ys) a zero below = a.0
    at_each (y ∷ ys) a (suc j) below = at_each ys a.1 j (omega arith)
apart_at (x ∷ xs) d (suc i) (suc j) before below = apart_at xs d.1 i j (omega arith) (omega arith)

-- a net has one place
pub one_place : (c : Circuit) → IsCircuit c → (i j : ℕ) → i < j → j < length c.order → get_or c.order i 0 ≢ get_or c.order j 0
one_place c known i j before below same =
    let distinct = IsDistinct-IsPermutation eqb same_either_way (range_with_len 0 (length (net_names c.nets))) c.order known.by_name.each
    (range_distinct (length (net_names c.nets))) in
    let apart = apart_at c.order distinct i j before below in
    let yes = eq-eqb (get_or c.order i 0) (get_or c.order j 0) same in absurd (cc)

pub same_place : (c : Circuit) → IsCircuit c → (i j n : ℕ) → slice_get c.order i ≡ Some n → slice_get c.order j ≡ Some n → i ≡ j
same_place c known i j n first second =
    let same = get_or_from_slice_get c.order i n 0 first ∙ sym (get_or_from_slice_get c.order j n 0 second) in
    elim (cases_order i j) [
      | inl e ↦ e
      | inr apart ↦ elim apart [
        | inl before ↦ absurd (one_place c known i j before (slice_get_within c.order j n second) same)
        | inr behind ↦ absurd (one_place c known j i behind (slice_get_within c.order i n first) (sym same))
      ]
    ]

-- each place has a net
pub net_below : (c : Circuit) → IsCircuit c → (place : ℕ) → place < length c.order → get_or c.order place 0 < length c.nets
net_below c known place below =
    let count = length (net_names c.nets) in
    let long : count ≡ length c.nets = length-map c.nets net_name in
    let all = All-permutation (λ (n : ℕ). n < count) (range_with_len 0 count) c.order known.by_name.each (range_inside count) in
    let here : get_or c.order place 0 < count = all place 0 below in omega arith
  where
    range_inside : (n : ℕ) → All (λ (k : ℕ). k < n) (range_with_len 0 n)
    range_inside n k d inside =
        let long = length-range_with_len 0 n in
        let is = get_or-range_with_len 0 n k d (omega arith) in omega arith

pub net_inside : (c : Circuit) → IsCircuit c → (place n : ℕ) → slice_get c.order place ≡ Some n → n < length c.nets
net_inside c known place n has =
    let below = net_below c known place (slice_get_within c.order place n has) in
    let is = get_or_from_slice_get c.order place n 0 has in omega (arith, below, is)

-- and each net a place
pub record HasPlace (order : List ℕ) (n : ℕ) : Type 0 where
  pub place : ℕ
  pub is : slice_get order place ≡ Some n

pub has_place : (c : Circuit) → IsCircuit c → (n : ℕ) → n < length c.nets → HasPlace c.order n
has_place c known n below =
    let count = length (net_names c.nets) in
    let long : count ≡ length c.nets = length-map c.nets net_name in
    let each : All (HasPlace c.order) c.order = λ k d inside. record { place = k; is = slice_get-get_or c.order k d inside } in
    let all = All-permutation (HasPlace c.order) c.order (range_with_len 0 count) (IsPermutation-sym (range_with_len 0 count) c.order known.by_name.each) each in
    let wide = length-range_with_len 0 count in
    let here = all n 0 (omega arith) in
    subst (HasPlace c.order) (get_or-range_with_len 0 count n 0 (omega arith) ∙ zero-add n) here
