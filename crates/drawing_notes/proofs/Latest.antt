-- The latest of what comes: of two, of none, and after some ticks more.
use Rattle.std.proofs.Common.{◌≡◌, ℕ, ◌+◌, ◌<◌, ◌≤◌, ◌==◌, ◌⊎◌, inl, inr, Bool, true, false, cond, ◌&&◌, ap, sym, subst, refl, ◌∙◌, arith, Option, Some, None}
use Rattle.std.specs.Prelude.{nat_lt}
use Rattle.std.specs.Option.{option_map}
use Rattle.std.proofs.lemmas.Bool.{eqb-true, or_cases, and_parts}
use Rattle.std.proofs.lemmas.Bool.Decides.{nat_tests}
use Rattle.drawing_notes.specs.declared.launched.Arrival.{Arrival}
use Rattle.drawing_notes.specs.Arrivals.{delayed, is_later, later}
use Rattle.drawing_notes.specs.Paths.{AreLatest, IsLatest}

-- So many ticks from this storage are not after an arrival: they are fewer, or as many and from no earlier storage.
abbrev pub NotAfter : ℕ → ℕ → Arrival → Type 0
NotAfter storage ticks a = (ticks < a.ticks) ⊎ ((ticks ≡ a.ticks) × (a.storage ≤ storage))

not_after_then : (storage ticks : ℕ) (a b : Arrival) → NotAfter storage ticks a → NotAfter a.storage a.ticks b → NotAfter storage ticks b
not_after_then storage ticks a b first second = elim first [
  | inl less ↦ elim second [
    | inl more ↦ inl (omega (arith, less, more))
    | inr same ↦ inl (let e = same.0 in omega (arith, less, e))
  ]
  | inr equal ↦ elim second [
    | inl more ↦ inl (let e = equal.0 in omega (arith, e, more))
    | inr same ↦ inr (equal.0 ∙ same.0, (let e = equal.1 in let f = same.1 in omega (arith, e, f)))
  ]
]

behind : (a b : Arrival) → is_later a b ≡ true → NotAfter a.storage a.ticks b
behind a b is = elim (or_cases (nat_lt a.ticks b.ticks) ((b.ticks == a.ticks) && nat_lt b.storage a.storage) is) [
  | inl less ↦ inl (grind (arith, nat_tests))
  | inr same ↦
      let both = and_parts (b.ticks == a.ticks) (nat_lt b.storage a.storage) same in
      let ticks = eqb-true b.ticks a.ticks both.0 in
      let before : b.storage < a.storage = grind (arith, nat_tests) in
      inr (sym ticks, omega (arith, before))
]

ahead : (a b : Arrival) → is_later a b ≡ false → NotAfter b.storage b.ticks a
ahead a b is = grind (arith, nat_tests)

-- ---- of two

module _ (P Q R : ℕ → ℕ → Type 0) (split : (s t : ℕ) → R s t → P s t ⊎ Q s t) (first : (s t : ℕ) → P s t → R s t)
    (second : (s t : ℕ) → Q s t → R s t) where
  second_only : (b : Option Arrival) → AreLatest P None → AreLatest Q b → AreLatest R b
  second_only None none is = λ s t r. elim (split s t r) [ inl p ↦ none s t p | inr q ↦ is s t q ]
  second_only (Some b) none is = record {
    comes = second b.storage b.ticks is.comes;
    latest = λ s t r. elim (split s t r) [ inl p ↦ absurd (none s t p) | inr q ↦ is.latest s t q ];
  }

  first_only : (a : Arrival) → IsLatest P a → AreLatest Q None → IsLatest R a
  first_only a is none = record {
    comes = first a.storage a.ticks is.comes;
    latest = λ s t r. elim (split s t r) [ inl p ↦ is.latest s t p | inr q ↦ absurd (none s t q) ];
  }

  one_of_two : (a b : Arrival) → IsLatest P a → IsLatest Q b → (t : Bool) → is_later a b ≡ t → AreLatest R (cond t (Some b) (Some a))
  one_of_two a b is other true e = record {
    comes = second b.storage b.ticks other.comes;
    latest = λ s t r. elim (split s t r) [
      | inl p ↦ not_after_then s t a b (is.latest s t p) (behind a b e)
      | inr q ↦ other.latest s t q
    ];
  }
  one_of_two a b is other false e = record {
    comes = first a.storage a.ticks is.comes;
    latest = λ s t r. elim (split s t r) [
      | inl p ↦ is.latest s t p
      | inr q ↦ not_after_then s t b a (other.latest s t q) (ahead a b e)
    ];
  }

  pub latest_of_two : (a b : Option Arrival) → AreLatest P a → AreLatest Q b → AreLatest R (later a b)
  latest_of_two None b none is = second_only b none is
  latest_of_two (Some a) None is none = first_only a is none
  latest_of_two (Some a) (Some b) is other = one_of_two a b is other (is_later a b) refl

-- ---- the same

module _ (P Q : ℕ → ℕ → Type 0) (there : (s t : ℕ) → P s t → Q s t) (back : (s t : ℕ) → Q s t → P s t) where
  pub latest_same : (o : Option Arrival) → AreLatest P o → AreLatest Q o
  latest_same None none = λ s t q. none s t (back s t q)
  latest_same (Some a) is = record { comes = there a.storage a.ticks is.comes; latest = λ s t q. is.latest s t (back s t q) }

-- ---- after some ticks more

shifted : (storage ticks more : ℕ) (a : Arrival) → NotAfter storage ticks a → NotAfter storage (ticks + more) (delayed more a)
shifted storage ticks more a first = elim first [
  | inl less ↦ inl (omega (arith, less))
  | inr equal ↦ inr ((let e = equal.0 in omega (arith, e)), equal.1)
]

module _ (P Q : ℕ → ℕ → Type 0) (more : ℕ) (there : (s t : ℕ) → P s t → Q s (t + more))
    (back : (s t : ℕ) → Q s t → (u : ℕ) × (P s u) × (t ≡ u + more)) where
  pub latest_delayed : (o : Option Arrival) → AreLatest P o → AreLatest Q (option_map (delayed more) o)
  latest_delayed None none = λ s t q. let b = back s t q in none s b.0 b.1
  latest_delayed (Some a) is = record {
    comes = there a.storage a.ticks is.comes;
    latest = λ s t q.
        let b = back s t q in
        subst (λ n. NotAfter s n (delayed more a)) (sym b.2) (shifted s b.0 more a (is.latest s b.0 b.1));
  }
