-- What the searches over ticks find.
use Rattle.std.proofs.Common.{inl, inr, ◌≡◌, ℕ, zero, suc, ◌+◌, ◌-◌, ◌<◌, ◌≤◌, Bool, true, false, cond, refl, sym, ap, ◌∙◌, arith, Option, Some, None}
use Rattle.std.proofs.lemmas.Bool.{cases_eq}
use Rattle.critical_paths.specs.Region.{first_from, last_up_to}

-- the tick is the first that passes
pub record IsFirst (test : ℕ → Bool) (n t x : ℕ) : Type 0 where
  pub from : t ≤ x
  pub below : x < t + n
  pub passes : test x ≡ true
  pub before : (u : ℕ) → t ≤ u → u < x → test u ≡ false

pub record IsLast (test : ℕ → Bool) (n t x : ℕ) : Type 0 where
  pub up_to : x ≤ t
  pub passes : test x ≡ true
  pub after : (u : ℕ) → x < u → u ≤ t → test u ≡ false

-- ---- the first

first_either : (test : ℕ → Bool) (n t x : ℕ) (b : Bool) → test t ≡ b →
    cond b (Some t) (first_from test n (t + 1)) ≡ Some x →
    (first_from test n (t + 1) ≡ Some x → IsFirst test n (t + 1) x) → IsFirst test (suc n) t x
first_either test n t x true here is rest =
    let same : t ≡ x = cc in
    record {
      from = omega (arith, same);
      below = omega (arith, same);
      passes = ap test (sym same) ∙ here;
      before = λ u above less. absurd (omega (arith, same, above, less));
    }
first_either test n t x false here is rest =
    let found = rest is in
    let from = found.from in
    let below = found.below in
    record {
      from = omega (arith, from);
      below = omega (arith, below);
      passes = found.passes;
      before = λ u above less. elim (cases_eq u t) [
        | inl same ↦ ap test same ∙ here
        | inr other ↦ found.before u (omega (arith, above, other)) less
      ];
    }

pub first_is : (test : ℕ → Bool) (n t x : ℕ) → first_from test n t ≡ Some x → IsFirst test n t x
first_is test zero t x is = absurd (cc)
first_is test (suc n) t x is = first_either test n t x (test t) refl is
    (λ rest. first_is test n (t + 1) x rest)

pub first_from_is : (test : ℕ → Bool) (n t x : ℕ) → IsFirst test n t x → first_from test n t
    ≡ Some x
first_from_is test zero t x first =
    let from = first.from in
    let below = first.below in
    absurd (omega (arith, from, below))
first_from_is test (suc n) t x first = elim (cases_eq t x) [
  | inl same ↦
      let here : test t ≡ true = ap test same ∙ first.passes in
      ap (λ (b : Bool). cond b (Some t) (first_from test n (t + 1))) here ∙ ap Some same
  | inr other ↦
      let from = first.from in
      let below = first.below in
      let here : test t ≡ false = first.before t (omega arith) (omega (arith, from, other)) in
      ap (λ (b : Bool). cond b (Some t) (first_from test n (t + 1))) here
      ∙ first_from_is test n (t + 1) x record {
        from = omega (arith, from, other);
        below = omega (arith, below);
        passes = first.passes;
        before = λ u above less. first.before u (omega (arith, above)) less;
      }
]

-- where one passes, the first is no later
pub record FirstUpTo (o : Option ℕ) (u : ℕ) : Type 0 where
  pub tick : ℕ
  pub is : o ≡ Some tick
  pub sooner : tick ≤ u

first_found : (test : ℕ → Bool) (n t u : ℕ) (b : Bool) → test t ≡ b → t ≤ u → test u ≡ true →
    (t < u → FirstUpTo (first_from test n (t + 1)) u) → FirstUpTo
    (cond b (Some t) (first_from test n (t + 1))) u
first_found test n t u true here from passes rest = record { tick = t; is = refl; sooner = from }
first_found test n t u false here from passes rest = elim (cases_eq t u) [
  | inl same ↦ absurd (cc (sym here ∙ ap test same ∙ passes))
  | inr other ↦ rest (omega (arith, from, other))
]

pub first_up_to : (test : ℕ → Bool) (n t u : ℕ) → t ≤ u → u < t + n → test u ≡ true →
    FirstUpTo (first_from test n t) u
first_up_to test zero t u from below passes = absurd (omega (arith, from, below))
first_up_to test (suc n) t u from below passes =
    first_found test n t u (test t) refl from passes
    (λ less. first_up_to test n (t + 1) u (omega (arith, less)) (omega (arith, below)) passes)

-- none passes
pub first_none : (test : ℕ → Bool) (n t : ℕ) → first_from test n t ≡ None → (u : ℕ) → t ≤ u →
    u < t + n → test u ≡ false
first_none test n t none u from below = by (test u) refl
  where
    by : (b : Bool) → test u ≡ b → test u ≡ false
    by false is = is
    by true is = let found = first_up_to test n t u from below is in
        absurd (cc (sym none ∙ found.is))

-- ---- the last

last_either : (test : ℕ → Bool) (n t x : ℕ) (b : Bool) → test t ≡ b →
    cond b (Some t) (last_up_to test n (t - 1)) ≡ Some x →
    (last_up_to test n (t - 1) ≡ Some x → IsLast test n (t - 1) x) → IsLast test (suc n) t x
last_either test n t x true here is rest =
    let same : t ≡ x = cc in
    record {
      up_to = omega (arith, same);
      passes = ap test (sym same) ∙ here;
      after = λ u above less. absurd (omega (arith, same, above, less));
    }
last_either test n t x false here is rest =
    let found = rest is in
    let up_to = found.up_to in
    record {
      up_to = omega (arith, up_to);
      passes = found.passes;
      after = λ u above less. elim (cases_eq u t) [
        | inl same ↦ ap test same ∙ here
        | inr other ↦ found.after u above (omega (arith, less, other))
      ];
    }

pub last_is : (test : ℕ → Bool) (n t x : ℕ) → last_up_to test n t ≡ Some x → IsLast test n t x
last_is test zero t x is = absurd (cc)
last_is test (suc n) t x is = last_either test n t x (test t) refl is
    (λ rest. last_is test n (t - 1) x rest)

pub last_up_to_is : (test : ℕ → Bool) (n t x : ℕ) → t < x + n → IsLast test n t x →
    last_up_to test n t ≡ Some x
last_up_to_is test zero t x near last =
    let up_to = last.up_to in
    absurd (omega (arith, up_to, near))
last_up_to_is test (suc n) t x near last = elim (cases_eq t x) [
  | inl same ↦
      let here : test t ≡ true = ap test same ∙ last.passes in
      ap (λ (b : Bool). cond b (Some t) (last_up_to test n (t - 1))) here ∙ ap Some same
  | inr other ↦
      let up_to = last.up_to in
      let here : test t ≡ false = last.after t (omega (arith, up_to, other)) (omega arith) in
      ap (λ (b : Bool). cond b (Some t) (last_up_to test n (t - 1))) here
      ∙ last_up_to_is test n (t - 1) x (omega (arith, near, up_to, other)) record {
        up_to = omega (arith, up_to, other);
        passes = last.passes;
        after = λ u above less. last.after u above (omega (arith, less));
      }
]

-- where one passes, the last is no earlier
pub record LastFrom (o : Option ℕ) (u : ℕ) : Type 0 where
  pub tick : ℕ
  pub is : o ≡ Some tick
  pub later : u ≤ tick

last_found : (test : ℕ → Bool) (n t u : ℕ) (b : Bool) → test t ≡ b → u ≤ t → test u ≡ true →
    (u < t → LastFrom (last_up_to test n (t - 1)) u) → LastFrom
    (cond b (Some t) (last_up_to test n (t - 1))) u
last_found test n t u true here up_to passes rest = record { tick = t; is = refl; later = up_to }
last_found test n t u false here up_to passes rest = elim (cases_eq t u) [
  | inl same ↦ absurd (cc (sym here ∙ ap test same ∙ passes))
  | inr other ↦ rest (omega (arith, up_to, other))
]

pub last_from : (test : ℕ → Bool) (n t u : ℕ) → u ≤ t → t < u + n → test u ≡ true →
    LastFrom (last_up_to test n t) u
last_from test zero t u up_to near passes = absurd (omega (arith, up_to, near))
last_from test (suc n) t u up_to near passes =
    last_found test n t u (test t) refl up_to passes
    (λ less. last_from test n (t - 1) u (omega (arith, less)) (omega (arith, near, less))
    passes)
