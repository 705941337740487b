-- Steps that follow one another.
use Rattle.std.proofs.Common.{◌≡◌, ℕ, ◌<◌, ◌⊎◌, inl, inr, true, false, length, ap, sym, subst, ◌∙◌, refl}
use Rattle.std.proofs.lemmas.Bool.{cases_lt}
use Rattle.flat_circuit.specs.Loop.{Reaches, By_one, And_then}
use Rattle.flat_circuit.specs.Circuit.{Circuit, instance_in, driver_in}
use Rattle.flat_circuit.proofs.Driven.{get_none}
use Rattle.drawing_notes.specs.Paths.{leads, passes_on, AreTogether}

pub joined : {R : ℕ → ℕ → Type 0} {i m j : ℕ} → Reaches R i m → Reaches R m j → Reaches R i j
joined (By_one r) q = And_then r q
joined (And_then r p) q = And_then r (joined p q)

-- the same node, or one that is reached
abbrev pub OrSame : (ℕ → ℕ → Type 0) → ℕ → ℕ → Type 0
OrSame R i j = (i ≡ j) ⊎ Reaches R i j

pub then_one : {R : ℕ → ℕ → Type 0} {i m j : ℕ} → OrSame R i m → R m j → Reaches R i j
then_one {R = R} {i = i} {m = m} {j = j} (inl same) r = By_one (subst (λ k. R k j) (sym same) r)
then_one (inr p) r = joined p (By_one r)

pub one_then : {R : ℕ → ℕ → Type 0} {i m j : ℕ} → R i m → OrSame R m j → Reaches R i j
one_then {R = R} {i = i} {m = m} {j = j} r (inl same) = By_one (subst (R i) same r)
one_then r (inr p) = And_then r p

-- the last step
pub record LastStep (R : ℕ → ℕ → Type 0) (i j : ℕ) : Type 0 where
  pub from : ℕ
  pub before : OrSame R i from
  pub step : R from j

pub last_step : {R : ℕ → ℕ → Type 0} {i j : ℕ} → Reaches R i j → LastStep R i j
last_step (By_one {i} {j} r) = record { from = i; before = inl refl; step = r }
last_step {R = R} (And_then {i} {m} {j} r p) =
    let last = last_step p in
    record { from = last.from; before = inr (one_then r last.before); step = last.step }

-- ---- nets on one loop

pub turned : {c : Circuit} {i j : ℕ} → AreTogether c i j → AreTogether c j i
turned t = record { there = t.back; back = t.there }

pub both : {c : Circuit} {i m j : ℕ} → AreTogether c i m → AreTogether c m j → AreTogether c i j
both s t = record { there = joined s.there t.there; back = joined t.back s.back }

-- a net that something leads to exists
pub led_below : (c : Circuit) (from i : ℕ) → leads c from i ≡ true → i < length c.nets
led_below c from i led = elim (cases_lt i (length c.nets)) [
  | inl below ↦ below
  | inr past ↦ let none = get_none c.nets i past in
      absurd (let no : false ≡ true = sym (ap (λ n. passes_on from (instance_in c (driver_in n))) none) ∙ led in cc)
]

pub together_below : (c : Circuit) (i j : ℕ) → AreTogether c i j → i < length c.nets
together_below c i j t = let last = last_step t.back in led_below c last.from i last.step
