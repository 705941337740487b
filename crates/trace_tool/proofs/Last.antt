-- The last tick that passes a test.
use Rattle.std.proofs.Common.{◌≡◌, ℕ, zero, suc, ◌+◌, ◌<◌, ◌≤◌, Bool, true, false, cond, Option, Some, None, refl, ap, sym, subst, ◌∙◌, add-one, arith, inl, inr}
use Rattle.std.proofs.lemmas.Bool.{cases_eq, cases_lt}
use Rattle.std.proofs.lemmas.Option.{same_Some}
use Rattle.trace_tool.specs.Pass.{last_such}

-- It passes, and no later one does.
pub record IsLast (test : ℕ → Bool) (n last : ℕ) : Type 0 where
  pub below : last < n
  pub passes : test last ≡ true
  pub none_after : (t : ℕ) → last < t → t < n → test t ≡ false

pub last_at : (test : ℕ → Bool) (n last : ℕ) → last_such test n ≡ Some last → IsLast test n last
last_at test zero last e = absurd (cc)
last_at test (suc n) last e = by (last_at test n last) (test n) refl e
  where
    by : (last_such test n ≡ Some last → IsLast test n last) → (b : Bool) → test n ≡ b →
        cond b (Some n) (last_such test n) ≡ Some last → IsLast test (suc n) last
    by earlier true is at =
        let same : n ≡ last = same_Some n last at in
        record {
          below = omega arith;
          passes = subst (λ (k : ℕ). test k ≡ true) same is;
          none_after = λ t after before. absurd (omega arith);
        }
    by earlier false is at =
        let rest = earlier at in
        let inside = rest.below in
        record {
          below = omega arith;
          passes = rest.passes;
          none_after = λ t after before. elim (cases_eq t n) as (λ _. test t ≡ false) [
            | inl here ↦ subst (λ (k : ℕ). test k ≡ false) (sym here) is
            | inr apart ↦ rest.none_after t after (omega arith)
          ];
        }

pub none_such : (test : ℕ → Bool) (n : ℕ) → last_such test n ≡ None → (t : ℕ) → t < n → test t ≡ false
none_such test zero e t less = absurd (omega arith)
none_such test (suc n) e t less = by (λ at. none_such test n at t) (test n) refl e
  where
    by : (last_such test n ≡ None → t < n → test t ≡ false) → (b : Bool) → test n ≡ b →
        cond b (Some n) (last_such test n) ≡ None → test t ≡ false
    by earlier true is at = absurd (cc)
    by earlier false is at = elim (cases_eq t n) as (λ _. test t ≡ false) [
      | inl here ↦ subst (λ (k : ℕ). test k ≡ false) (sym here) is
      | inr apart ↦ earlier at (omega arith)
    ]

-- If one passes there is a last, and that comes no sooner.
pub record HasLast (test : ℕ → Bool) (n t : ℕ) : Type 0 where
  pub last : ℕ
  pub is : last_such test n ≡ Some last
  pub no_sooner : t ≤ last

pub has_last : (test : ℕ → Bool) (n t : ℕ) → t < n → test t ≡ true → HasLast test n t
has_last test n t less passes = by (last_such test n) refl
  where
    by : (found : Option ℕ) → last_such test n ≡ found → HasLast test n t
    by None e = absurd (cc (none_such test n e t less))
    by (Some last) e = record {
      last = last;
      is = e;
      no_sooner = elim (cases_lt last t) as (λ _. t ≤ last) [
        | inl sooner ↦ absurd (cc ((last_at test n last e).none_after t sooner less))
        | inr later ↦ later
      ];
    }

pub last_is : (test : ℕ → Bool) (n last : ℕ) → IsLast test n last → last_such test n ≡ Some last
last_is test n last is =
    let found = has_last test n last is.below is.passes in
    let at = last_at test n found.last found.is in
    let late = found.no_sooner in
    found.is ∙ ap Some (elim (cases_lt last found.last) as (λ _. found.last ≡ last) [
      | inl after ↦ absurd (cc (is.none_after found.last after at.below, at.passes))
      | inr before ↦ omega arith
    ])

-- one tick more
pub last_more : (test : ℕ → Bool) (t : ℕ) → last_such test (t + 1) ≡ cond (test t) (Some t) (last_such test t)
last_more test t = rw add-one refl

-- the last one kept is the last with one tick more
pub latest_is : (test : ℕ → Bool) (t : ℕ) (passes : Bool) (last new : Option ℕ) → passes ≡ test t → last ≡ last_such test t →
    new ≡ cond passes (Some t) last → new ≡ last_such test (t + 1)
latest_is test t passes last new now before is =
    is ∙ ap (λ b. cond b (Some t) last) now ∙ ap (λ l. cond (test t) (Some t) l) before ∙ sym (last_more test t)
