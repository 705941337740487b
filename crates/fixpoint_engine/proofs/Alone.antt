-- If there are no classes, each net is one of its own: it stands for itself alone, and all nets that are due are evaluated.
use Rattle.std.proofs.Common.{◌≡◌, ℕ, zero, suc, ◌+◌, ◌<◌, ◌≤◌, ◌==◌, inl, inr, Bool, true, false, not, ◌&&◌, cond, All, List, [], ◌∷◌, ◌++◌, length, map, refl, sym, ap, ◌∙◌, arith, zero-add, count_by, Option, Some, None, is_some}
use Rattle.std.specs.List.{range_with_len}
use Rattle.std.specs.Prelude.{IfSome}
use Rattle.std.proofs.lemmas.Bool.{cases_lt, eqb-true, eqb-false, lt-ltb}
use Rattle.std.proofs.lemmas.List.Elements.{All-head, All-tail}
use Rattle.std.proofs.lemmas.List.FromFn.{fill_by_all, length-range_with_len, get_or-range_with_len, length-map-range_with_len, get_or-map-range_with_len}
use Rattle.flat_circuit.specs.Circuit.{Circuit}
use Rattle.flat_circuit.specs.Alike.{class_of}
use Rattle.fixpoint_engine.specs.Waves.{Waves}
use Rattle.fixpoint_engine.proofs.Marks.{count_marks}
use Rattle.fixpoint_engine.specs.Rounds.{round}
use Rattle.fixpoint_engine.specs.Settled.{marked_in, FitActive}
use Rattle.fixpoint_engine.specs.Work.{is_due, work_to}
use Rattle.fixpoint_engine.specs.Worklist.{Change}
use Rattle.fixpoint_engine.specs.Classes.{OneStandsForAll, is_first, class_work_to}
use Rattle.fixpoint_engine.specs.Members.{last_below, members_below, for_classes, numbers_in}
use Rattle.fixpoint_engine.specs.Members.{leads_in, is_evaluated, for_all, evaluations_to}
use Rattle.fixpoint_engine.proofs.Drivers.{active_past}
use Rattle.fixpoint_engine.proofs.Members.{above, members_above, first_is}

module _ (n : ℕ) where
  abbrev own : List ℕ
  own = range_with_len 0 n

  own_class : (i : ℕ) → i < n → class_of own i ≡ i
  own_class i below = get_or-range_with_len 0 n i 0 below ∙ zero-add i

  none_before : (i m : ℕ) → i < n → m ≤ i → last_below own i m ≡ None
  unfolding last_below
  none_before i zero below least = refl
  none_before i (suc m) below least = by (class_of own m == i) refl (none_before i m below (omega (arith, least)))
    where
      by : (here : Bool) → (class_of own m == i) ≡ here → last_below own i m ≡ None → cond here (Some m) (last_below own i m) ≡ None
      by true e none = let same : m ≡ i = sym (own_class m (omega (arith, below, least))) ∙ eqb-true (class_of own m) i e in absurd (omega (arith, same, least))
      by false e none = none

  own_first : (i : ℕ) → i < n → is_first own i ≡ true
  own_first i below =
      first_is own i ∙ ap (λ (class : ℕ). not (is_some (last_below own class i))) (own_class i below)
      ∙ ap (λ (o : Option ℕ). not (is_some o)) (none_before i i below (omega arith))

  own_members : (i m : ℕ) → i < m → m ≤ n → members_below own i m ≡ i ∷ []
  unfolding members_below
  own_members i zero less most = absurd (omega (arith, less))
  own_members i (suc m) less most = by (class_of own m == i) refl (own_members i m)
    where
      there : m < n
      there = omega (arith, most)

      by : (here : Bool) → (class_of own m == i) ≡ here → (i < m → m ≤ n → members_below own i m ≡ i ∷ []) → cond here (m ∷ members_below own i m) (members_below own i m) ≡ i ∷ []
      by true e rest =
          let same : m ≡ i = sym (own_class m there) ∙ eqb-true (class_of own m) i e in
          let none : members_below own i m ≡ [] = members_above own i m ∙ ap (λ (o : Option ℕ). members_below own i (above o)) (none_before i m (omega (arith, same, there)) (omega (arith, same))) in
          λ k. same k ∷ none k
      by false e rest =
          let apart : m ≡ i → ⊥ = λ same. eqb-false (class_of own m) i e (own_class m there ∙ same) in
          rest (omega (arith, less, apart)) (omega (arith, most))

  own_changes : (changes : List Change) → All (λ (ch : Change). ch.0 < n) changes → changes ≡ for_classes own changes
  own_changes [] exist = refl
  own_changes (ch ∷ changes) exist =
      let below : ch.0 < n = All-head (λ (one : Change). one.0 < n) ch changes exist in
      let members : members_below own (class_of own ch.0) (length own) ≡ ch.0 ∷ [] =
      (λ k. members_below own (own_class ch.0 below k) (length-range_with_len 0 n k)) ∙ own_members ch.0 n below (omega arith) in
      let rest = own_changes changes (All-tail (λ (one : Change). one.0 < n) ch changes exist) in
      let here : for_classes own (ch ∷ changes) ≡ ch ∷ for_classes own changes = λ k. map (λ i. (i, ch.1)) (members k) ++ for_classes own changes in
      (λ k. ch ∷ rest k) ∙ sym here

-- ---- with classes or without

pub for_all_is : (n : ℕ) (classes : Option (List ℕ)) → length (numbers_in n classes) ≡ n → (changes : List Change) →
    All (λ (ch : Change). ch.0 < n) changes → for_all classes changes ≡ for_classes (numbers_in n classes) changes
for_all_is n None each changes exist = own_changes n changes exist
for_all_is n (Some ks) each changes exist = refl

pub each_numbered : (n : ℕ) (classes : Option (List ℕ)) → length (numbers_in n classes) ≡ n → IfSome classes (λ ks. length ks ≡ n)
each_numbered n None each = tt
each_numbered n (Some ks) each = each

pub leads_first : (n : ℕ) (classes : Option (List ℕ)) (i : ℕ) → length (numbers_in n classes) ≡ n → i < n → leads_in classes i ≡ is_first (numbers_in n classes) i
leads_first n None i each below = sym (own_first n i below)
leads_first n (Some ks) i each below = ap (λ (b : Bool). b && is_first ks i) (lt-ltb i (length ks) (omega (arith, each, below)))

pub evaluated_first : (c : Circuit) (active : List Bool) (classes : Option (List ℕ)) (i : ℕ) → FitActive c active → length (numbers_in (length c.nets) classes) ≡ length c.nets →
    is_evaluated active classes i ≡ (marked_in active i && is_first (numbers_in (length c.nets) classes) i)
evaluated_first c active classes i fit each =
    elim (cases_lt i (length c.nets)) [
      | inl below ↦ ap (λ (b : Bool). marked_in active i && b) (leads_first (length c.nets) classes i each below)
      | inr past ↦
          let passive = active_past c active i fit past in
          ap (λ (b : Bool). b && leads_in classes i) passive ∙ sym (ap (λ (b : Bool). b && is_first (numbers_in (length c.nets) classes) i) passive)
    ]

-- ---- rounds without classes

pub own_classes : (c : Circuit) (active : List Bool) (start : Waves) → FitActive c active → OneStandsForAll c (marked_in active) (range_with_len 0 (length c.nets)) start
own_classes c active start fit = record {
  each_net = length-range_with_len 0 (length c.nets);
  one = λ r i j below below' same.
      ap (round c (marked_in active) start r) (sym (own_class (length c.nets) i below) ∙ same ∙ own_class (length c.nets) j below');
  none = λ i past. active_past c active i fit past;
}

counts_same : (f g : ℕ → Bool) (n : ℕ) → ((k : ℕ) → k < n → f k ≡ g k) → count_by f (range_with_len 0 n) ≡ count_by g (range_with_len 0 n)
counts_same f g n same =
    count_marks f g (range_with_len 0 n) (range_with_len 0 n)
    (fill_by_all g (map f (range_with_len 0 n)) n false (length-map-range_with_len f 0 n) (λ k below. get_or-map-range_with_len f 0 n k k false below (zero-add k) ∙ same k below))

pub own_work : (c : Circuit) (active : ℕ → Bool) (rounds : ℕ → Waves) (r : ℕ) → class_work_to c (range_with_len 0 (length c.nets)) active rounds r ≡ work_to c active rounds r
unfolding work_to class_work_to
own_work c active rounds zero = refl
own_work c active rounds (suc r) =
    let due = counts_same (λ i. is_first (range_with_len 0 (length c.nets)) i && is_due c active rounds (suc r) i) (is_due c active rounds (suc r)) (length c.nets)
    (λ k below. ap (λ (b : Bool). b && is_due c active rounds (suc r) k) (own_first (length c.nets) k below)) in
    λ k. own_work c active rounds r k + due k

pub evaluations_are : (c : Circuit) (classes : Option (List ℕ)) (active : ℕ → Bool)
    (rounds : ℕ → Waves) (r : ℕ) →
    class_work_to c (numbers_in (length c.nets) classes) active rounds r ≡ evaluations_to classes c
    active rounds r
evaluations_are c None active rounds r = own_work c active rounds r
evaluations_are c (Some ks) active rounds r = refl
