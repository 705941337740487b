-- The first and the last of some numbers.
use Rattle.std.proofs.Common.{inl, inr, ◌≡◌, ℕ, zero, suc, ◌+◌, ◌<◌, ◌≤◌, Bool, true, false, cond, refl, sym, ap, ◌∙◌, arith, Option, Some, None}
use Rattle.std.specs.Option.{option_or}
use Rattle.std.proofs.lemmas.Bool.{cases_eq}
use Rattle.gate_eval.specs.Hold.{first_some}
use Rattle.point_check.specs.Point.{last_to}

-- what is found is found somewhere
pub record IsFoundAt {A : Type 0} (f : ℕ → Option A) (n i : ℕ) (x : A) : Type 0 where
  pub at : ℕ
  pub above : i ≤ at
  pub below : at < i + n
  pub is : f at ≡ Some x

found_here : {A : Type 0} (f : ℕ → Option A) (n i : ℕ) (x y : A) → f i ≡ Some y → Some y ≡ Some x → IsFoundAt f (suc n) i x
found_here f n i x y is same = record { at = i; above = omega arith; below = omega arith; is = is ∙ same }

found_later : {A : Type 0} (f : ℕ → Option A) (n i : ℕ) (x : A) → IsFoundAt f n (i + 1) x → IsFoundAt f (suc n) i x
found_later f n i x later =
    let above = later.above in
    let below = later.below in
    record { at = later.at; above = omega (arith, above); below = omega (arith, below); is = later.is }

found_either : {A : Type 0} (f : ℕ → Option A) (n i : ℕ) (x : A) (o : Option A) → f i ≡ o → option_or o (first_some f n (i + 1)) ≡ Some x →
    (first_some f n (i + 1) ≡ Some x → IsFoundAt f n (i + 1) x) → IsFoundAt f (suc n) i x
found_either f n i x (Some y) is e later = found_here f n i x y is e
found_either f n i x None is e later = found_later f n i x (later e)

pub first_some_is : {A : Type 0} (f : ℕ → Option A) (n i : ℕ) (x : A) → first_some f n i ≡ Some x → IsFoundAt f n i x
first_some_is f zero i x e = cc
first_some_is f (suc n) i x e = found_either f n i x (f i) refl e (λ later. first_some_is f n (i + 1) x later)

-- ---- the last

-- if one passes, the last that does is no earlier
pub record IsNoEarlier (j : ℕ) (o : Option ℕ) : Type 0 where
  pub last : ℕ
  pub is : o ≡ Some last
  pub later : j ≤ last

later_either : (test : ℕ → Bool) (n j : ℕ) (b : Bool) → test (suc n) ≡ b → j ≤ suc n → test j ≡ true → (j ≤ n → IsNoEarlier j (last_to test n)) → IsNoEarlier j (last_to test (suc n))
later_either test n j true e most here before = record { last = suc n; is = ap (λ b. cond b (Some (suc n)) (last_to test n)) e; later = most }
later_either test n j false e most here before = elim (cases_eq j (suc n)) [
  | inl same ↦ let up : test (suc n) ≡ true = ap test (sym same) ∙ here in absurd (cc (up, e))
  | inr ne ↦
      let rest = before (omega arith) in
      record { last = rest.last; is = ap (λ b. cond b (Some (suc n)) (last_to test n)) e ∙ rest.is; later = rest.later }
]

pub last_to_later : (test : ℕ → Bool) (n j : ℕ) → 1 ≤ j → j ≤ n → test j ≡ true → IsNoEarlier j (last_to test n)
last_to_later test zero j one most here = absurd (omega arith)
last_to_later test (suc n) j one most here = later_either test n j (test (suc n)) refl most here (λ less. last_to_later test n j one less here)
