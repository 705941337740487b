-- Nets and instances by their numbers.
use Rattle.std.proofs.Common.{◌≡◌, ℕ, zero, suc, ◌+◌, ◌<◌, ◌≤◌, Bool, true, false, List, [], ◌∷◌, length, get_or, take, map, slice_get, Some, None, not, cond, count_by, refl, arith, add-zero, sym, ◌∙◌}
use mir.Val.{bool_byte}
use Rattle.std.proofs.lemmas.List.Sums.{count_by_more_no, count_by_more_yes, sum_by-cons}
use Rattle.std.proofs.lemmas.Option.{slice_get-get_or}
use Rattle.std.specs.Prelude.{if◌then◌else◌}
use Rattle.flat_circuit.specs.declared.instance.Instance.{Instance}
use Rattle.element_kinds.specs.Kinds.{has_output}
use Rattle.flat_circuit.specs.Instances.{outputs, checkers}
use Rattle.flat_circuit.specs.Name.{Name, name_at, nameless}

-- what is past the last has no name
pub name_past : {X : Type 0} (f : X → Name) (xs : List X) (i : ℕ) → None ≡ slice_get xs i → name_at (map f xs) i ≡ nameless
name_past f [] i none = refl
name_past f (x ∷ xs) zero none = cc
name_past f (x ∷ xs) (suc i) none = name_past f xs i none

-- one item more
by_test : {X : Type 0} (p : X → Bool) (xs : List X) (k : ℕ) (d : X) (b : Bool) → k < length xs → p (get_or xs k d) ≡ b → count_by p (take (k + 1) xs) ≡ count_by p (take k xs) + (if b then 1 else 0)
by_test p xs k d true within is = count_by_more_yes p xs k d within is
by_test p xs k d false within is = count_by_more_no p xs k d within is ∙ sym (add-zero (count_by p (take k xs)))

count_more : {X : Type 0} (p : X → Bool) (xs : List X) (k : ℕ) (b : Bool) → k < length xs → ((x : X) → slice_get xs k ≡ Some x → b ≡ p x) →
    count_by p (take (k + 1) xs) ≡ count_by p (take k xs) + (if b then 1 else 0)
count_more p [] k b within is = absurd (omega arith)
count_more p (x ∷ xs) k b within is = by_test p (x ∷ xs) k x b within (sym (is (get_or (x ∷ xs) k x) (slice_get-get_or (x ∷ xs) k x within)))

one_of_both : (t : Bool) (a b n : ℕ) → a + b ≡ n → (cond t 1 0 + a) + (cond (not t) 1 0 + b) ≡ suc n
one_of_both true a b n h = omega arith
one_of_both false a b n h = omega arith

count_both : {X : Type 0} (p : X → Bool) (xs : List X) → count_by p xs + count_by (λ x. not (p x)) xs ≡ length xs
count_both p [] = refl
count_both p (x ∷ xs) =
    rw (sum_by-cons (λ x. cond (p x) 1 0) x xs, sum_by-cons (λ x. cond (not (p x)) 1 0) x xs)
    (one_of_both (p x) (count_by p xs) (count_by (λ x. not (p x)) xs) (length xs) (count_both p xs))

pub outputs_more : (js : List Instance) (k : ℕ) (b : Bool) → k < length js → ((j : Instance) → slice_get js k ≡ Some j → b ≡ has_output j.kind) →
    outputs (take (k + 1) js) ≡ outputs (take k js) + (if b then 1 else 0)
outputs_more js k b within is = count_more (λ (j : Instance). has_output j.kind) js k b within is

-- every instance has an output or is a checker
pub outputs_and_checkers : (js : List Instance) → outputs js + checkers js ≡ length js
outputs_and_checkers js = count_both (λ (j : Instance). has_output j.kind) js

-- what a test counts for
pub byte_is : (b : Bool) → bool_byte b ≡ (if b then 1 else 0)
byte_is true = refl
byte_is false = refl

pub one_at_most : (b : Bool) → (if b then 1 else 0) ≤ 1
one_at_most true = omega arith
one_at_most false = omega arith
