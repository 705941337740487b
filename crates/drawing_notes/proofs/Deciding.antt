-- Among so many nets it is decided which ones a search finds, and so which ones a clock launches: by the ways over none of
-- them, over the first of them, over the first two, and so on.
use Rattle.std.proofs.Common.{◌≡◌, ℕ, zero, suc, ◌<◌, ◌&&◌, ◌||◌, Bool, true, false, inl, inr, length, refl, subst, arith}
use Rattle.std.specs.Prelude.{nat_lt}
use Rattle.std.proofs.lemmas.Bool.{cases_eq, and_parts, and_from, or_cases, or_left, or_right}
use Rattle.std.proofs.lemmas.Bool.Decides.{nat_tests}
use Rattle.flat_circuit.specs.Circuit.{Circuit}
use Rattle.fixpoint_engine.specs.Waves.{Waves}
use Rattle.drawing_notes.specs.Passing.{is_passable}
use Rattle.drawing_notes.specs.Paths.{TellsLaunches, is_started, leads_in}
use Rattle.drawing_notes.specs.Search.{Over, At_start, By_step, IsFound}

-- ---- one of the first numbers

abbrev some : ℕ → (ℕ → Bool) → Bool
some zero p = false
some (suc n) p = p n || some n p

record Has (n : ℕ) (p : ℕ → Bool) : Type 0 where
  at : ℕ
  below : at < n
  is : p at ≡ true

some_has : (n : ℕ) (p : ℕ → Bool) → some n p ≡ true → Has n p
some_has zero p is = absurd cc
some_has (suc n) p is = elim (or_cases (p n) (some n p) is) [
  | inl here ↦ record { at = n; below = omega arith; is = here }
  | inr later ↦ let h = some_has n p later in let below = h.below in record { at = h.at; below = omega (arith, below); is = h.is }
]

some_from : (n : ℕ) (p : ℕ → Bool) (i : ℕ) → i < n → p i ≡ true → some n p ≡ true
some_from zero p i below is = absurd (omega (arith, below))
some_from (suc n) p i below is = elim (cases_eq i n) [
  | inl same ↦ or_left _ _ (subst (λ k. p k ≡ true) same is)
  | inr other ↦ or_right _ _ (some_from n p i (omega (arith, below, other)) is)
]

module _ (step : ℕ → ℕ → Bool) (within : ℕ → Bool) where
  -- from one net to another by a step, or over nets below a number
  abbrev way : ℕ → ℕ → ℕ → Bool
  way zero i j = step i j && within j
  way (suc k) i j = way k i j || (way k i k && way k k j)

  way_at_once : (k i j : ℕ) → step i j ≡ true → within j ≡ true → way k i j ≡ true
  way_at_once zero i j led inside = and_from (step i j) (within j) led inside
  way_at_once (suc k) i j led inside = or_left _ _ (way_at_once k i j led inside)

  way_to : (k i : ℕ) → way (suc k) i k ≡ true → way k i k ≡ true
  way_to k i is = elim (or_cases (way k i k) (way k i k && way k k k) is) [ inl there ↦ there | inr both ↦ (and_parts (way k i k) (way k k k) both).0 ]

  way_from : (k j : ℕ) → way (suc k) k j ≡ true → way k k j ≡ true
  way_from k j is = elim (or_cases (way k k j) (way k k k && way k k j) is) [ inl there ↦ there | inr both ↦ (and_parts (way k k k) (way k k j) both).1 ]

  way_over : (k i j : ℕ) → way k i k ≡ true → way k k j ≡ true → way (suc k) i j ≡ true
  way_over k i j to from = or_right _ _ (and_from (way k i k) (way k k j) to from)

  way_joined : (k i m j : ℕ) → m < k → way k i m ≡ true → way k m j ≡ true → way k i j ≡ true
  way_joined zero i m j below to from = absurd (omega (arith, below))
  way_joined (suc k) i m j below to from = elim (cases_eq m k) [
    | inl same ↦ way_over k i j (way_to k i (subst (λ x. way (suc k) i x ≡ true) same to)) (way_from k j (subst (λ x. way (suc k) x j ≡ true) same from))
    | inr other ↦
        let less : m < k = omega (arith, below, other) in
        elim (or_cases (way k i m) (way k i k && way k k m) to) [
          | inl straight ↦ elim (or_cases (way k m j) (way k m k && way k k j) from) [
            | inl on ↦ or_left _ _ (way_joined k i m j less straight on)
            | inr both ↦
                let parts = and_parts (way k m k) (way k k j) both in
                way_over k i j (way_joined k i m k less straight parts.0) parts.1
          ]
          | inr both ↦
              let parts = and_parts (way k i k) (way k k m) both in
              elim (or_cases (way k m j) (way k m k && way k k j) from) [
                | inl on ↦ way_over k i j parts.0 (way_joined k k m j less parts.1 on)
                | inr more ↦ way_over k i j parts.0 (and_parts (way k m k) (way k k j) more).1
              ]
        ]
  ]

  module _ (start : ℕ → Bool) where
    way_found : (k i j : ℕ) → way k i j ≡ true → Over step within start i → Over step within start j
    way_found zero i j is before = let both = and_parts (step i j) (within j) is in By_step before both.0 both.1
    way_found (suc k) i j is before = elim (or_cases (way k i j) (way k i k && way k k j) is) [
      | inl there ↦ way_found k i j there before
      | inr both ↦ let parts = and_parts (way k i k) (way k k j) both in way_found k k j parts.1 (way_found k i k parts.0 before)
    ]

    abbrev pub found_of : ℕ → ℕ → Bool
    found_of n j = start j || some n (λ i. start i && way n i j)

    module _ (n : ℕ) (start_below : (i : ℕ) → start i ≡ true → i < n) (within_below : (i : ℕ) → within i ≡ true → i < n) where
      over_below : {i : ℕ} → Over step within start i → i < n
      over_below (At_start {i = i} is) = start_below i is
      over_below (By_step {from = from} {i = i} inner led inside) = within_below i inside

      found_over : (j : ℕ) → found_of n j ≡ true → Over step within start j
      found_over j is = elim (or_cases (start j) (some n (λ i. start i && way n i j)) is) [
        | inl begins ↦ At_start begins
        | inr later ↦
            let h = some_has n (λ i. start i && way n i j) later in
            let both = and_parts (start h.at) (way n h.at j) h.is in
            way_found n h.at j both.1 (At_start both.0)
      ]

      over_found : {j : ℕ} → Over step within start j → found_of n j ≡ true
      over_found (At_start {i = i} is) = or_left _ _ is
      over_found (By_step {from = from} {i = i} inner led inside) = elim (or_cases (start from) (some n (λ k. start k && way n k from)) (over_found inner)) [
        | inl begins ↦
            or_right _ _ (some_from n (λ k. start k && way n k i) from (start_below from begins)
            (and_from (start from) (way n from i) begins (way_at_once n from i led inside)))
        | inr later ↦
            let h = some_has n (λ k. start k && way n k from) later in
            let both = and_parts (start h.at) (way n h.at from) h.is in
            or_right _ _ (some_from n (λ k. start k && way n k i) h.at h.below
            (and_from (start h.at) (way n h.at i) both.0 (way_joined n h.at from i (over_below inner) both.1 (way_at_once n from i led inside))))
      ]

      pub are_found : IsFound step within start (found_of n)
      are_found j = (found_over j, over_found)

-- ---- what each clock launches

module _ (c : Circuit) (looped : ℕ → Bool) (ws : Waves) where
  net_below : (i : ℕ) → is_passable c looped ws i ≡ true → i < length c.nets
  net_below i is = let below = (and_parts (nat_lt i (length c.nets)) _ is).0 in grind (arith, nat_tests)

  abbrev pub launched_in : ℕ → ℕ → Bool
  launched_in clock = found_of (leads_in c ws) (is_passable c looped ws) (is_started c looped ws clock) (length c.nets)

  pub launched_tells : TellsLaunches c looped ws launched_in
  launched_tells clock =
      are_found (leads_in c ws) (is_passable c looped ws) (is_started c looped ws clock) (length c.nets)
      (λ i is. net_below i (and_parts (is_passable c looped ws i) _ is).0) net_below
