-- Slots of the period, counted backwards.
use Rattle.std.proofs.Common.{◌≡◌, ℕ, ◌+◌, ◌-◌, ◌*◌, ◌%◌, ◌/◌, ◌<◌, ◌≤◌, ◌⊎◌, inl, inr, sym, ap, ◌∙◌, arith}
use Rattle.std.proofs.lemmas.Bool.{cases_lt}
use Rattle.std.proofs.Math.Nat.{add-mul-mod_self_right, mod-lt, mod-add-mod, mod-add-div', mod-eq_of_lt}
use Rattle.scald_base.specs.Clock.{back}

-- the same slot, a whole number of periods apart
mod_shift : (a b q p : ℕ) → a ≡ b + q * p → a % p ≡ b % p
mod_shift a b q p e = ap (λ (z : ℕ). z % p) e ∙ add-mul-mod_self_right b q p

-- so many whole periods, by what stands in `back`
times : (m p : ℕ) → 0 < p → m * p ≡ m * (p - 1) + m
times m p pos = let e : m * p ≡ m * (p - 1 + 1) = ap (λ (z : ℕ). m * z) (omega arith) in omega (arith, e)

pub back_lt : (p t o : ℕ) → 0 < p → back p t o < p
unfolding back
back_lt p t o pos = mod-lt _ pos

pub back_zero : (p t : ℕ) → back p t 0 ≡ t % p
unfolding back
back_zero p t = mod_shift (t + 0 * (p - 1)) t 0 p (omega arith)

pub back_one : (p t : ℕ) → back p t 1 ≡ (t + (p - 1)) % p
unfolding back
back_one p t = ap (λ (z : ℕ). z % p) (omega arith)

-- m ticks later and m slots further back
pub back_later : (p t m o : ℕ) → 0 < p → back p (t + m) (m + o) ≡ back p t o
unfolding back
back_later p t m o pos = mod_shift (t + m + (m + o) * (p - 1)) (t + o * (p - 1)) m p (omega (arith, times m p pos))

pub back_back : (p t m o : ℕ) → back p (back p t m) o ≡ back p t (m + o)
unfolding back
back_back p t m o = mod-add-mod (t + m * (p - 1)) p (o * (p - 1)) ∙ ap (λ (z : ℕ). z % p) (omega arith)

pub back_mod : (p t o : ℕ) → back p (t % p) o ≡ back p t o
unfolding back
back_mod p t o = mod-add-mod t p (o * (p - 1))

-- whole periods back change nothing
pub back_period : (p t o : ℕ) → back p t (o % p) ≡ back p t o
unfolding back
back_period p t o =
    let e : (o % p + o / p * p) * (p - 1) ≡ o * (p - 1) = ap (λ (z : ℕ). z * (p - 1)) (mod-add-div' o p) in
    sym (mod_shift (t + o * (p - 1)) (t + o % p * (p - 1)) (o / p * (p - 1)) p (omega (arith, e)))

-- a slot back from one that is some slots on from an earlier one
pub back_sooner : (p t o a m : ℕ) → back p (back p t o + a) m ≡ back p (t + a) (o + m)
unfolding back
back_sooner p t o a m =
    ap (λ (z : ℕ). z % p) (let e : (t + o * (p - 1)) % p + a + m * (p - 1) ≡ (t + o * (p - 1)) % p + (a + m * (p - 1)) = omega arith in e)
    ∙ mod-add-mod (t + o * (p - 1)) p (a + m * (p - 1)) ∙ ap (λ (z : ℕ). z % p) (omega arith)

-- as code computes it
pub back_sub : (p t o : ℕ) → 0 < p → (t + (p - o % p)) % p ≡ back p t o
unfolding back
back_sub p t o pos =
    let r : ℕ = o % p in
    let small : r < p = mod-lt o pos in
    sym (mod_shift (t + r * (p - 1) + p) (t + (p - r)) r p (omega (arith, times r p pos)))
    ∙ mod_shift (t + r * (p - 1) + p) (t + r * (p - 1)) 1 p (omega arith)
    ∙ back_period p t o

-- whole periods later
pub back_periods : (p t m o : ℕ) → 0 < p → back p (t + m * (p - 1) + m) o ≡ back p t o
unfolding back
back_periods p t m o pos = mod_shift (t + m * (p - 1) + m + o * (p - 1)) (t + o * (p - 1)) m p (omega (arith, times m p pos))

-- the slot of an earlier tick
pub back_to : (p first second : ℕ) → 0 < p → first < second → back p second (second - first) ≡ first % p
back_to p first second pos ordered =
    ap (λ (z : ℕ). back p z (second - first)) (let e : second ≡ first + (second - first) = omega arith in e)
    ∙ ap (back p (first + (second - first))) (let e : second - first ≡ second - first + 0 = omega arith in e)
    ∙ back_later p first (second - first) 0 pos ∙ back_zero p first

pub period_later : (p t : ℕ) → (t + p) % p ≡ t % p
period_later p t = mod_shift (t + p) t 1 p (omega arith)

pub mod_small : (t p : ℕ) → t < p → t % p ≡ t
mod_small t p below = mod-eq_of_lt below

-- a slot of the second period
less : (p t : ℕ) → p ≤ t → t < 2 * p → t % p ≡ t - p
less p t from within = mod_shift t (t - p) 1 p (omega arith) ∙ mod_small (t - p) p (omega arith)

-- One slot has one tick in each period.
pub period_apart : (p first second : ℕ) → 0 < p → first < second → second < 2 * p → first % p ≡ second % p → second ≡ first + p
period_apart p first second pos ordered within same =
    go (cases_lt first p) (cases_lt second p)
  where
    go : (first < p) ⊎ (p ≤ first) → (second < p) ⊎ (p ≤ second) → second ≡ first + p
    go (inl a) (inl b) = let e : first ≡ second = sym (mod_small first p a) ∙ same ∙ mod_small second p b in absurd (omega arith)
    go (inl a) (inr b) =
        let e : first ≡ second - p = sym (mod_small first p a) ∙ same ∙ less p second b within in omega arith
    go (inr a) (inl b) = absurd (omega arith)
    go (inr a) (inr b) =
        let e : first - p ≡ second - p = sym (less p first a (omega arith)) ∙ same ∙ less p second b within in absurd (omega arith)
