-- Which pairs of nets have to be looked at.
use Rattle.std.proofs.Common.{◌≡◌, ℕ, ◌+◌, ◌<◌, ◌≤◌, ◌⊎◌, inl, inr, Bool, true, false, MatchBool, All, List, [], length, Option, Some, get_or, sym, ap, ◌∙◌, arith, subst}
use Rattle.std.specs.Prelude.{slice_get}
use Rattle.std.proofs.lemmas.Bool.{cases_lt}
use Rattle.std.proofs.lemmas.Option.{slice_get_cases, slice_get_within, slice_get-get_or, get_or_from_slice_get}
use Rattle.std.proofs.lemmas.List.Elements.{All-nil}
use Rattle.flat_circuit.specs.declared.case.CaseValue.{CaseValue}
use Rattle.flat_circuit.specs.declared.net.Net.{Net}
use Rattle.flat_circuit.specs.Circuit.{Circuit}
use Rattle.flat_circuit.specs.Alike.{class_of, value_in, NetsAlike}
use Rattle.flat_circuit.specs.Stable.{AreAlikeAt, AreAlikeBefore, IsStable, AreNumbersOfNets, IsAsNumbersIn}
use Rattle.flat_circuit.proofs.Alike.{nets_self, nets_back, nets_both}

pub some_same : (m n : Net) → ◌≡◌ {A = Option Net} (Some m) (Some n) → m ≡ n
some_same m n e = cc

-- a loop that looks at one number more
pub next_one : (P : ℕ → Type 0) (n : ℕ) → ((i : ℕ) → i < n → P i) → P n → (i : ℕ) → i < n + 1 → P i
next_one P n before here i within = go (cases_lt i n)
  where
    go : (i < n) ⊎ (n ≤ i) → P i
    go (inl less) = before i less
    go (inr last) = let there : n ≡ i = omega arith in subst P there here

is_number : (k : List ℕ) (i : ℕ) → AreNumbersOfNets k → i < length k → slice_get k (class_of k i) ≡ Some (class_of k i)
is_number k i numbers below = numbers i 0 below

pub number_below : (k : List ℕ) (i : ℕ) → AreNumbersOfNets k → i < length k → class_of k i < length k
number_below k i numbers below = slice_get_within k (class_of k i) (class_of k i) (is_number k i numbers below)

module _ (c : Circuit) (cases : List (List CaseValue)) (k : List ℕ) where
  -- ---- classes that have the number of one of their nets

  pub as_its_number : (i : ℕ) → AreNumbersOfNets k → i < length k → IsStable c cases k → AreAlikeAt c cases k i (class_of k i)
  as_its_number i numbers below stable =
      stable i (class_of k i) (sym (get_or_from_slice_get k (class_of k i) (class_of k i) 0 (is_number k i numbers below)))

  pub stable_by_numbers : length k ≡ length c.nets → AreNumbersOfNets k → ((i : ℕ) → i < length c.nets → AreAlikeAt c cases k i (class_of k i)) → IsStable c cases k
  stable_by_numbers one_each numbers each i j same m n is_m is_n =
      let below_i : i < length c.nets = slice_get_within c.nets i m is_m in
      let below_j : j < length c.nets = slice_get_within c.nets j n is_n in
      let there : class_of k i < length k =
      slice_get_within k (class_of k i) (class_of k i) (is_number k i numbers (omega (arith, one_each, below_i))) in
      let is_first : slice_get c.nets (class_of k i) ≡ Some (get_or c.nets (class_of k i) m) =
      slice_get-get_or c.nets (class_of k i) m (omega (arith, one_each, there)) in
      nets_both c cases k i j (class_of k i) m n (get_or c.nets (class_of k i) m)
      (each i below_i m (get_or c.nets (class_of k i) m) is_m is_first)
      (subst (λ (r : ℕ). AreAlikeAt c cases k j r) (sym same) (each j below_j) n (get_or c.nets (class_of k i) m) is_n is_first)

  -- ---- whatever the numbers are

  pub stable_by_pairs : ((i : ℕ) → i < length c.nets → AreAlikeBefore c cases k i) → IsStable c cases k
  stable_by_pairs each i j same m n is_m is_n = go (cases_lt i j) (cases_lt j i)
    where
      go : (i < j) ⊎ (j ≤ i) → (j < i) ⊎ (i ≤ j) → NetsAlike c cases k i j m n
      go (inl before) either = nets_back c cases k j i n m (each j (slice_get_within c.nets j n is_n) i before (sym same) n m is_n is_m)
      go (inr up_to) (inl after) = each i (slice_get_within c.nets i m is_m) j after same m n is_m is_n
      go (inr up_to) (inr down_to) =
          let there : i ≡ j = omega arith in
          let one : slice_get c.nets i ≡ slice_get c.nets j = ap (slice_get c.nets) there in
          let net : m ≡ n = some_same m n (sym is_m ∙ one ∙ is_n) in
          subst (λ (l : ℕ). NetsAlike c cases k i l m n) there (subst (λ (o : Net). NetsAlike c cases k i i m o) net (nets_self c cases k i m))

-- ---- the cases apart from all else

pub apart : (c : Circuit) (cases : List (List CaseValue)) (k : List ℕ) → IsStable c cases k → IsStable c [] k
apart c cases k stable i j same m n is_m is_n =
    let alike = stable i j same m n is_m is_n in
    record {
      spec = alike.spec;
      wire = alike.wire;
      values = All-nil (λ (values : List CaseValue). value_in values i ≡ value_in values j);
      drivers = alike.drivers;
    }

net_at : (c : Circuit) (i : ℕ) → i < length c.nets → (m : Net) × (slice_get c.nets i ≡ Some m)
net_at c i below = elim (slice_get_cases c.nets i).1 [
  | inl found ↦ (found.0, found.2)
  | inr past ↦ absurd (let far : length c.nets ≤ i = past.0 in omega (arith, far, below))
]

pub values_as_numbers : (c : Circuit) (cases : List (List CaseValue)) (k : List ℕ) → length k ≡ length c.nets → AreNumbersOfNets k → IsStable c cases k →
    All (IsAsNumbersIn (length c.nets) k) cases
values_as_numbers c cases k one_each numbers stable place values within i below =
    let below_k : i < length k = omega (arith, one_each, below) in
    let number : class_of k i < length k = number_below k i numbers below_k in
    let m = net_at c i below in
    let n = net_at c (class_of k i) (omega (arith, one_each, number)) in
    (as_its_number c cases k i numbers below_k stable m.0 n.0 m.1 n.1).values place values within

pub stable_with_values : (c : Circuit) (cases : List (List CaseValue)) (k : List ℕ) → length k ≡ length c.nets → AreNumbersOfNets k → IsStable c [] k →
    All (IsAsNumbersIn (length c.nets) k) cases → IsStable c cases k
stable_with_values c cases k one_each numbers stable values =
    stable_by_numbers c cases k one_each numbers (λ i below m n is_m is_n.
    let alike = as_its_number c [] k i numbers (omega (arith, one_each, below)) stable m n is_m is_n in
    record { spec = alike.spec; wire = alike.wire; values = λ place d within. values place d within i below; drivers = alike.drivers })

pub either_way : {A B : Type 0} (b : Bool) → (A → B) → (B → A) → MatchBool b A (¬ A) → MatchBool b B (¬ B)
either_way true to from h = to h
either_way false to from h = λ is. h (from is)
