-- Ticks in a row, and what they say of a window of ticks.
use Rattle.std.proofs.Common.{◌≡◌, ℕ, zero, suc, ◌+◌, ◌-◌, ◌<◌, ◌≤◌, ◌⊎◌, min, max, Bool, true, false, not, ◌&&◌, cond, ltb, refl, ap, sym, ◌∙◌, arith, inl, inr}
use Rattle.std.proofs.lemmas.Bool.{and_parts, and_from, cases_eq, cases_lt, lt-ltb, le-ltb, ltb-true, both_ways}
use Rattle.scald_base.specs.Signal.{Signal, turned}
use Rattle.flat_circuit.specs.Split.{split_bit}
use Rattle.flat_circuit.proofs.Splits.{every_tick, turned as mirrored}
use Rattle.trace_sim.specs.Making.{in_a_row, held_through}

pub row_short : (test : ℕ → Bool) (n : ℕ) → in_a_row test n ≤ n
row_short test zero = omega arith
row_short test (suc m) = by (test m) (row_short test m)
  where
    by : (b : Bool) → in_a_row test m ≤ m → cond b (in_a_row test m + 1) 0 ≤ suc m
    by true l = omega arith
    by false l = omega arith

-- all in the row pass
row_passes : (test : ℕ → Bool) (n u : ℕ) → u < n → n ≤ u + in_a_row test n → test u ≡ true
row_passes test zero u l h = absurd (omega arith)
row_passes test (suc m) u l h = by (test m) refl (λ k. row_passes test m u k) h
  where
    by : (b : Bool) → test m ≡ b → (u < m → m ≤ u + in_a_row test m → test u ≡ true) → suc m ≤ u + cond b (in_a_row test m + 1) 0 → test u ≡ true
    by true e before h = elim (cases_eq u m) as (λ _. test u ≡ true) [
      | inl s ↦ ap test s ∙ e
      | inr d ↦ before (omega arith) (omega arith)
    ]
    by false e before h = absurd (omega arith)

-- and the one before it does not
pub row_stops : (test : ℕ → Bool) (n : ℕ) → in_a_row test n < n → test (n - in_a_row test n - 1) ≡ false
row_stops test zero l = absurd (omega arith)
row_stops test (suc m) l = by (test m) refl (λ k. row_stops test m k) l
  where
    by : (b : Bool) → test m ≡ b → (in_a_row test m < m → test (m - in_a_row test m - 1) ≡ false) → cond b (in_a_row test m + 1) 0 < suc m →
        test (suc m - cond b (in_a_row test m + 1) 0 - 1) ≡ false
    by true e before l =
        let s : suc m - (in_a_row test m + 1) - 1 ≡ m - in_a_row test m - 1 = omega arith in
        ap test s ∙ before (omega arith)
    by false e before l = let s : suc m - 0 - 1 ≡ m = omega arith in ap test s ∙ e

-- ---- a window

pub held_passes : (test : ℕ → Bool) (near far t u : ℕ) → held_through test near far t ≡ true → u + near ≤ t → t ≤ u + far → test u ≡ true
held_passes test near far t u e low high =
    let l : far < in_a_row test (t + 1 - near) + near = ltb-true far (in_a_row test (t + 1 - near) + near) e in
    row_passes test (t + 1 - near) u (omega arith) (omega arith)

pub passes_held : (test : ℕ → Bool) (near far t : ℕ) → far ≤ t → ((u : ℕ) → u + near ≤ t → t ≤ u + far → test u ≡ true) → held_through test near far t ≡ true
passes_held test near far t inside all = by (in_a_row test (t + 1 - near)) refl (cases_lt far (in_a_row test (t + 1 - near) + near))
  where
    by : (row : ℕ) → in_a_row test (t + 1 - near) ≡ row → (far < in_a_row test (t + 1 - near) + near) ⊎ (in_a_row test (t + 1 - near) + near ≤ far) → held_through test near far t ≡ true
    by row e (inl l) = lt-ltb far (in_a_row test (t + 1 - near) + near) l
    by row e (inr l) =
        let stop : test (t + 1 - near - in_a_row test (t + 1 - near) - 1) ≡ false = row_stops test (t + 1 - near) (omega arith) in
        let pass : test (t + 1 - near - in_a_row test (t + 1 - near) - 1) ≡ true = all (t + 1 - near - in_a_row test (t + 1 - near) - 1) (omega arith) (omega arith) in
        absurd (both_ways (test (t + 1 - near - in_a_row test (t + 1 - near) - 1)) stop pass)

-- ---- the bit of a gate with two delays

same_bits : (a b : Bool) → (a ≡ true → b ≡ true) → (b ≡ true → a ≡ true) → a ≡ b
same_bits true b f g = sym (f refl)
same_bits false true f g = g refl
same_bits false false f g = refl

-- the rise takes at least as long
slow_rise : (z : Signal) (shown : ℕ → Bool) (rise fall t : ℕ) → fall ≤ rise → rise ≤ t → ((u : ℕ) → t ≤ u + rise → shown u ≡ true) →
    held_through (λ u. shown u && z u) fall rise t ≡ split_bit z rise fall t
slow_rise z shown rise fall t longer inside there =
    let says = every_tick.slow_rise z rise fall t longer inside in
    same_bits (held_through (λ u. shown u && z u) fall rise t) (split_bit z rise fall t)
    (λ e. says.1 (λ u r. (and_parts (shown u) (z u) (held_passes (λ u. shown u && z u) fall rise t u e r.0 r.1)).1))
    (λ e. passes_held (λ u. shown u && z u) fall rise t inside (λ u low high. and_from (shown u) (z u) (there u high) (says.0 e u (low, high))))

abbrev waited : Bool → Signal → (ℕ → Bool) → ℕ → ℕ → ℕ → Bool
waited slow z shown near far t = turned slow (held_through (λ u. shown u && turned slow (z u)) near far t)

not_not : (b : Bool) → not (not b) ≡ b
not_not true = refl
not_not false = refl

pub waited_is : (z : Signal) (shown : ℕ → Bool) (rise fall t : ℕ) → max rise fall ≤ t → ((u : ℕ) → t ≤ u + max rise fall → shown u ≡ true) →
    waited (ltb rise fall) z shown (min rise fall) (max rise fall) t ≡ split_bit z rise fall t
waited_is z shown rise fall t inside there = by (cases_lt rise fall)
  where
    by : (rise < fall) ⊎ (fall ≤ rise) → waited (ltb rise fall) z shown (min rise fall) (max rise fall) t ≡ split_bit z rise fall t
    by (inr l) =
        let near : min rise fall ≡ fall = omega arith in
        let far : max rise fall ≡ rise = omega arith in
        ap (λ b. waited b z shown (min rise fall) (max rise fall) t) (le-ltb rise fall l)
        ∙ ap (λ m. waited false z shown m (max rise fall) t) near ∙ ap (λ m. waited false z shown fall m t) far
        ∙ slow_rise z shown rise fall t l (omega arith) (λ u h. there u (omega arith))
    by (inl l) =
        let near : min rise fall ≡ rise = omega arith in
        let far : max rise fall ≡ fall = omega arith in
        ap (λ b. waited b z shown (min rise fall) (max rise fall) t) (lt-ltb rise fall l)
        ∙ ap (λ m. waited true z shown m (max rise fall) t) near ∙ ap (λ m. waited true z shown rise m t) far
        ∙ ap not (slow_rise (λ u. not (z u)) shown fall rise t (omega arith) (omega arith) (λ u h. there u (omega arith)))
        ∙ ap not (mirrored z rise fall t) ∙ not_not (split_bit z rise fall t)
