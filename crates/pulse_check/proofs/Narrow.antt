-- Where the least width of a pulse is found, and why none is.
use Rattle.std.proofs.Common.{inl, inr, ◌⊎◌, ◌≡◌, ℕ, zero, suc, ◌+◌, ◌-◌, ◌<◌, ◌≤◌, Bool, true, false, cond, refl, sym, ap, subst, ◌∙◌, arith, Option, Some, None}
use Rattle.std.specs.Option.{option_map}
use Rattle.std.proofs.lemmas.Bool.{cases_lt, cases_eq, and_from, and_left, and_right}
use Rattle.step_values.specs.declared.value.Value.{Value}
use Rattle.gate_eval.proofs.Found.{first_some_from, first_some_beyond}
use Rattle.fixpoint_engine.proofs.ReadSlots.{below_run}
use Rattle.pulse_check.specs.Next.{IsNextStart}
use Rattle.pulse_check.specs.Pulse.{Slots, may_begin, may_end, may_last, lasts_for, may_be_wide, least_width, narrow_at, first_narrow}

-- ---- going on

pub lasts_all : (level : Bool) (wave : Slots) (slot n : ℕ) → ((k : ℕ) → k < n → may_last level (wave (slot + k)) ≡ true) → lasts_for level wave slot n ≡ true
lasts_all level wave slot zero each = refl
lasts_all level wave slot (suc n) each =
    let here : slot ≡ slot + 0 = omega arith in
    and_from (may_last level (wave slot)) (lasts_for level wave (slot + 1) n)
    (ap (λ (s : ℕ). may_last level (wave s)) here ∙ each 0 (omega arith))
    (lasts_all level wave (slot + 1) n (λ k below. next k below))
  where
    next : (k : ℕ) → k < n → may_last level (wave (slot + 1 + k)) ≡ true
    next k below =
        let same : slot + 1 + k ≡ slot + suc k = omega arith in
        ap (λ (s : ℕ). may_last level (wave s)) same ∙ each (suc k) (omega arith)

lasts_not : (level : Bool) (wave : Slots) (slot n k : ℕ) → k < n → may_last level (wave (slot + k)) ≡ false → lasts_for level wave slot n ≡ false
lasts_not level wave slot zero k below stops = absurd (omega arith)
lasts_not level wave slot (suc n) zero below stops =
    let here : slot ≡ slot + 0 = omega arith in
    and_left (may_last level (wave slot)) (lasts_for level wave (slot + 1) n) (ap (λ (s : ℕ). may_last level (wave s)) here ∙ stops)
lasts_not level wave slot (suc n) (suc k) below stops =
    let same : slot + 1 + k ≡ slot + suc k = omega arith in
    and_right (may_last level (wave slot)) (lasts_for level wave (slot + 1) n)
    (lasts_not level wave (slot + 1) n k (omega arith) (ap (λ (s : ℕ). may_last level (wave s)) same ∙ stops))

-- ---- the least width

-- a pulse that begins in slot a goes on so far and does not end
pub record GoesOn (level : Bool) (wave : Slots) (a k : ℕ) : Type 0 where
  pub unended : may_end level (wave (a + k)) ≡ false
  pub lasts : may_last level (wave (a + k)) ≡ true

pub unended_on : (level : Bool) (wave : Slots) (a k : ℕ) (v : Value) (ends lasts : Bool) →
    wave (a + k) ≡ v → ends ≡ may_end level v → ends ≡ false → lasts ≡ may_last level v → lasts ≡ true → GoesOn level wave a k
unended_on level wave a k v ends lasts at e unended l goes = record { unended = ap (may_end level) at ∙ sym e ∙ unended; lasts = ap (may_last level) at ∙ sym l ∙ goes }

module _ (level : Bool) (wave : Slots) (limit a : ℕ) where
  abbrev pub width_at : ℕ → Option ℕ
  width_at width = cond (may_be_wide level wave a width) (Some width) None

  unended_none : (k : ℕ) → may_end level (wave (a + k)) ≡ false → width_at k ≡ None
  unended_none k e =
      ap (λ b. cond b (Some k) None) (and_left (may_end level (wave (a + k))) (lasts_for level wave (a + 1) (k - 1)) e)

  pub is_wide : (width : ℕ) → 1 ≤ width → ((k : ℕ) → 1 ≤ k → k < width → may_last level (wave (a + k)) ≡ true) → may_end level (wave (a + width)) ≡ true →
      may_be_wide level wave a width ≡ true
  is_wide width one each end =
      and_from (may_end level (wave (a + width))) (lasts_for level wave (a + 1) (width - 1)) end
      (lasts_all level wave (a + 1) (width - 1) (λ k below. later k below))
    where
      later : (k : ℕ) → k < width - 1 → may_last level (wave (a + 1 + k)) ≡ true
      later k below =
          let same : a + 1 + k ≡ a + (1 + k) = omega arith in
          ap (λ (s : ℕ). may_last level (wave s)) same ∙ each (1 + k) (omega arith) (omega arith)

  pub ends_here : (width : ℕ) → 1 ≤ width → width < limit → ((k : ℕ) → k < width → 1 ≤ k → GoesOn level wave a k) → may_end level (wave (a + width)) ≡ true →
      least_width level wave limit a ≡ Some width
  ends_here width one below before end =
      first_some_from width_at (limit - 1) 1 width width (λ k above less. unended_none k (before k less above).unended) one (omega arith)
      (ap (λ b. cond b (Some width) None) (is_wide width one (λ k above less. (before k less above).lasts) end))

  pub stops_here : (width : ℕ) → 1 ≤ width → ((k : ℕ) → k < width → 1 ≤ k → GoesOn level wave a k) → may_end level (wave (a + width)) ≡ false → may_last level (wave (a + width)) ≡ false →
      least_width level wave limit a ≡ None
  stops_here width one before unended stops = first_some_beyond width_at (limit - 1) 1 (λ k above below. by k above (cases_lt k width) (cases_lt width k))
    where
      beyond : (k : ℕ) → width < k → width_at k ≡ None
      beyond k over =
          let same : a + 1 + (width - 1) ≡ a + width = omega arith in
          ap (λ b. cond b (Some k) None)
          (and_right (may_end level (wave (a + k))) (lasts_for level wave (a + 1) (k - 1))
          (lasts_not level wave (a + 1) (k - 1) (width - 1) (omega arith) (ap (λ (s : ℕ). may_last level (wave s)) same ∙ stops)))

      by : (k : ℕ) → 1 ≤ k → (k < width) ⊎ (width ≤ k) → (width < k) ⊎ (k ≤ width) → width_at k ≡ None
      by k above (inl less) other = unended_none k (before k less above).unended
      by k above (inr most) (inl over) = beyond k over
      by k above (inr most) (inr least) =
          let same : k ≡ width = omega arith in
          unended_none k (ap (λ (j : ℕ). may_end level (wave (a + j))) same ∙ unended)

  pub never_ends : ((k : ℕ) → k < limit → 1 ≤ k → GoesOn level wave a k) → least_width level wave limit a ≡ None
  never_ends before = first_some_beyond width_at (limit - 1) 1 (λ k above below. unended_none k (before k (omega arith) above).unended)

-- ---- the first slot

pub narrow_here : (level : Bool) (wave : Slots) (limit a width : ℕ) → may_begin level (wave a) ≡ true → least_width level wave limit a ≡ Some width → narrow_at level wave limit a ≡ Some (a, width)
narrow_here level wave limit a width begins least =
    ap (λ b. cond b (option_map (λ (w : ℕ). (a, w)) (least_width level wave limit a)) None) begins ∙ ap (option_map (λ (w : ℕ). (a, w))) least

pub narrow_not : (level : Bool) (wave : Slots) (limit a : ℕ) → may_begin level (wave a) ≡ false → narrow_at level wave limit a ≡ None
narrow_not level wave limit a begins = ap (λ b. cond b (option_map (λ (w : ℕ). (a, w)) (least_width level wave limit a)) None) begins

pub narrow_wide : (level : Bool) (wave : Slots) (limit a : ℕ) → least_width level wave limit a ≡ None → narrow_at level wave limit a ≡ None
narrow_wide level wave limit a least = by (may_begin level (wave a))
  where
    by : (b : Bool) → cond b (option_map {U = ℕ × ℕ} (λ w. (a, w)) (least_width level wave limit a)) None ≡ None
    by true = ap (option_map {U = ℕ × ℕ} (λ w. (a, w))) least
    by false = refl

pub first_at : (period : ℕ) (level : Bool) (wave : Slots) (limit a : ℕ) (found : ℕ × ℕ) →
    ((k : ℕ) → k < a → narrow_at level wave limit k ≡ None) → a < period → narrow_at level wave limit a ≡ Some found →
    first_narrow period level wave limit ≡ Some found
first_at period level wave limit a found before below here = first_some_from (narrow_at level wave limit) period 0 a found (λ k above less. before k less) (omega arith) (omega arith) here

pub first_nowhere : (period : ℕ) (level : Bool) (wave : Slots) (limit : ℕ) → ((k : ℕ) → k < period → narrow_at level wave limit k ≡ None) → first_narrow period level wave limit ≡ None
first_nowhere period level wave limit none = first_some_beyond (narrow_at level wave limit) period 0 (λ k above below. none k (omega arith))

-- ---- the next slot in which one may begin

-- from a slot on no pulse at the level may begin before this one, which is a slot of the period or its end
pub record NoStart (level : Bool) (wave : Slots) (from p slot : ℕ) : Type 0 where
  pub after : from ≤ slot
  pub within : slot ≤ p
  pub none : (s : ℕ) → from ≤ s → s < slot → may_begin level (wave s) ≡ false

pub none_yet : (level : Bool) (wave : Slots) (from p : ℕ) → from ≤ p → NoStart level wave from p from
none_yet level wave from p most = record { after = omega arith; within = most; none = λ s above below. absurd (omega (arith, above, below)) }

pub none_to : (level : Bool) (wave : Slots) (from p slot end : ℕ) → NoStart level wave from p slot → slot ≤ end → end ≤ p → ((s : ℕ) → slot ≤ s → s < end → may_begin level (wave s) ≡ false) →
    NoStart level wave from p end
none_to level wave from p slot end so_far more within run = record {
  after = let after = so_far.after in omega (arith, after, more);
  within = within;
  none = λ s above below. by s above below (cases_lt s slot);
}
  where
    by : (s : ℕ) → from ≤ s → s < end → (s < slot) ⊎ (slot ≤ s) → may_begin level (wave s) ≡ false
    by s above below (inl less) = so_far.none s above less
    by s above below (inr most) = run s most below

pub starts_at : (level : Bool) (wave : Slots) (from p slot : ℕ) → NoStart level wave from p slot → may_begin level (wave slot) ≡ true → IsNextStart level wave from p slot
starts_at level wave from p slot so_far here = record { after = so_far.after; within = so_far.within; none = so_far.none; at = λ below. here }

pub none_left : (level : Bool) (wave : Slots) (from p slot period : ℕ) → NoStart level wave from p slot → period ≡ p → period ≤ slot → IsNextStart level wave from p period
none_left level wave from p slot period so_far same past = record {
  after = let after = so_far.after in let within = so_far.within in omega (arith, after, within, same);
  within = omega (arith, same);
  none = λ s above below. so_far.none s above (omega (arith, below, past));
  at = λ below. absurd (omega (arith, same, below));
}

pub past_starts : (level : Bool) (wave : Slots) (limit p start next : ℕ) → ((s : ℕ) → s < start → narrow_at level wave limit s ≡ None) → narrow_at level wave limit start ≡ None →
    IsNextStart level wave (start + 1) p next → (s : ℕ) → s < next → narrow_at level wave limit s ≡ None
past_starts level wave limit p start next before here to =
    below_run (λ s. narrow_at level wave limit s ≡ None) start next before (λ s above below. elim (cases_eq start s) [
      | inl e ↦ subst (λ (z : ℕ). narrow_at level wave limit z ≡ None) e here
      | inr ne ↦ narrow_not level wave limit s (to.none s (omega arith) below)
    ])
