-- Tests that compute: over the numbers below another, over the steps of a signal, and signals that
-- are written out.
use Prim.Native.String.{String}
use Rattle.std.proofs.Common.{inl, inr, ◌≡◌, ◌⊎◌, ℕ, zero, suc, ◌+◌, ◌-◌, ◌<◌, ◌≤◌, Bool, true, false, not, ◌&&◌, ◌||◌, ◌==◌, if◌then◌else◌, List, length, map, slice_index_or, codes, refl, subst, arith}
use Rattle.std.specs.List.{range_with_len}
use Rattle.std.proofs.lemmas.Bool.{and_parts, and_from, or_cases, or_left, or_right}
use Rattle.scald_base.specs.Signal.{Signal}
use Rattle.scald_base.proofs.Below.{below_or_last}

-- ---- signals that are written out

-- the signal of a text of `0` and `1`, which has a bit for each tick
abbrev pub bits : String → Signal
bits text t = slice_index_or (codes text) t 48 == 49

-- how many ticks it has
abbrev pub ticks : String → ℕ
ticks text = length (codes text)

-- the first n bits of a signal, or answers of a test, as such a text
abbrev pub shown : (ℕ → Bool) → ℕ → List ℕ
shown test n = map (λ i. if test i then 49 else 48) (range_with_len 0 n)

-- ---- bits

abbrev pub same_bit : Bool → Bool → Bool
same_bit a b = if a then b else not b

pub same_bit_is : (a b : Bool) → same_bit a b ≡ true → a ≡ b
same_bit_is a b h = grind arith

pub same_bit_from : (a b : Bool) → a ≡ b → same_bit a b ≡ true
same_bit_from a b h = grind arith

abbrev pub implies : Bool → Bool → Bool
implies a b = not a || b

pub implies_is : (a b : Bool) → implies a b ≡ true → a ≡ true → b ≡ true
implies_is a b h passed = grind arith

pub implies_from : (a b : Bool) → (a ≡ true → b ≡ true) → implies a b ≡ true
implies_from true b h = h refl
implies_from false b h = refl

pub not_true : (b : Bool) → not b ≡ true → b ≡ false
not_true b h = grind arith

-- ---- numbers

-- each number below n passes
abbrev pub all_below : (ℕ → Bool) → ℕ → Bool
all_below test zero = true
all_below test (suc n) = test n && all_below test n

-- some number below n passes
abbrev pub any_below : (ℕ → Bool) → ℕ → Bool
any_below test zero = false
any_below test (suc n) = test n || any_below test n

pub each_passes : (test : ℕ → Bool) (n : ℕ) → all_below test n ≡ true → (t : ℕ) → t < n →
    test t ≡ true
each_passes test zero h t below = absurd (omega (arith, below))
each_passes test (suc n) h t below =
    at (each_passes test n parts.1 t) (below_or_last t n (omega (arith, below)))
  where
    parts : (test n ≡ true) × (all_below test n ≡ true)
    parts = and_parts (test n) (all_below test n) h

    at : (t < n → test t ≡ true) → (t < n) ⊎ (t ≡ n) → test t ≡ true
    at before (inl less) = before less
    at before (inr last) = rw last parts.0

pub all_pass : (test : ℕ → Bool) (n : ℕ) → ((t : ℕ) → t < n → test t ≡ true) →
    all_below test n ≡ true
all_pass test zero each = refl
all_pass test (suc n) each =
    and_from (test n) (all_below test n) (each n (omega arith))
    (all_pass test n (λ t less. each t (omega (arith, less))))

abbrev Found : (ℕ → Bool) → ℕ → Type 0
Found test n = (t : ℕ) × (t < n) × (test t ≡ true)

pub some_passes : (test : ℕ → Bool) (n : ℕ) → any_below test n ≡ true →
    (t : ℕ) × (t < n) × (test t ≡ true)
some_passes test zero h = cc
some_passes test (suc n) h = at (some_passes test n) (or_cases (test n) (any_below test n) h)
  where
    at : (any_below test n ≡ true → Found test n) → (test n ≡ true) ⊎ (any_below test n ≡ true) →
        Found test (suc n)
    at before (inl last) = (n, omega arith, last)
    at before (inr some) =
        let found = before some in
        (found.0, (let less : found.0 < n = found.1 in omega (arith, less)), found.2)

pub any_passes : (test : ℕ → Bool) (n t : ℕ) → t < n → test t ≡ true → any_below test n ≡ true
any_passes test zero t below h = absurd (omega (arith, below))
any_passes test (suc n) t below h =
    at (λ less. any_passes test n t less h) (below_or_last t n (omega (arith, below)))
  where
    at : (t < n → any_below test n ≡ true) → (t < n) ⊎ (t ≡ n) → any_below test (suc n) ≡ true
    at before (inl less) = or_right (test n) (any_below test n) (before less)
    at before (inr last) =
        or_left (test n) (any_below test n) (subst (λ (i : ℕ). test i ≡ true) last h)

-- ---- steps

-- each tick of n that has one before it passes
abbrev pub all_steps : (ℕ → Bool) → ℕ → Bool
all_steps test n = all_below (λ t. test (t + 1)) (n - 1)

pub each_step : (test : ℕ → Bool) (n : ℕ) → all_steps test n ≡ true → (t : ℕ) → 1 ≤ t → t < n →
    test t ≡ true
each_step test n h t one below =
    let is : t - 1 + 1 ≡ t = omega (arith, one) in
    subst (λ (i : ℕ). test i ≡ true) is
    (each_passes (λ i. test (i + 1)) (n - 1) h (t - 1) (omega (arith, one, below)))

pub steps_pass : (test : ℕ → Bool) (n : ℕ) → ((t : ℕ) → 1 ≤ t → t < n → test t ≡ true) →
    all_steps test n ≡ true
steps_pass test n each =
    all_pass (λ t. test (t + 1)) (n - 1)
    (λ t less. each (t + 1) (omega arith) (omega (arith, less)))
