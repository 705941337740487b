-- The slots of a clock, and a clock whose edges move each by itself.
use Rattle.std.proofs.Common.{inl, inr, ◌≡◌, ℕ, zero, suc, ◌+◌, ◌-◌, ◌%◌, ◌<◌, ◌≤◌, ◌⊎◌, min, Bool, true, false, not, ◌&&◌, List, length, refl, sym, ap, ◌∙◌, arith}
use Rattle.std.proofs.lemmas.Bool.{cases_eq}
use Rattle.std.proofs.Math.Nat.{mod-lt, mod-le}
use Rattle.scald_base.specs.Time.{Header, period}
use Rattle.scald_base.specs.Clock.{ideal, back, IsInRegion}
use Rattle.scald_base.specs.Fitting.{skew_of}
use Rattle.scald_base.specs.Signal.{Signal}
use Rattle.scald_base.specs.declared.assertion.ClockSpec.{ClockSpec}
use Rattle.scald_base.proofs.Back.{back_lt, back_later, back_back, back_sooner}
use Rattle.step_values.specs.declared.value.Value.{Value}
use Rattle.step_values.specs.declared.value.Value.TheVariants.{R, F}
use Rattle.step_values.specs.Steps.{has}
use Rattle.step_values.specs.Cell.{values}
use Rattle.step_values.specs.Lawful.{values_lawful}
use Rattle.wave_core.specs.Slots.{slots, earlier, fold_at}
use Rattle.wave_core.proofs.Slots.{length_slots, earlier_slots}
use Rattle.skew_algebra.specs.Permits.{Permits}
use Rattle.skew_algebra.proofs.Cells.{join_to_has}
use Rattle.skew_algebra.proofs.Moves.{earlier_period, earlier_folded}
use Rattle.pin_waves.specs.Meets.{NearEdge, MeetsClock}
use Rattle.pin_waves.specs.Interface.{step_value, sooner, skewed_clock, clock_wave}

-- ---- what single values permit

pub step_has : (before after : Bool) → has (step_value before after) before after ≡ true
step_has before after = grind arith

rise_has : (before after : Bool) → (before ≡ true → after ≡ true) → has R before after ≡ true
rise_has before after up = grind arith

fall_has : (before after : Bool) → (before ≡ false → after ≡ false) → has F before after ≡ true
fall_has before after down = grind arith

-- ---- the slots of a clock that shows these bits at the ticks of the period

abbrev pub step_slots : ℕ → (ℕ → Bool) → List Value
step_slots p f = slots p (λ i. step_value (f (back p i 1)) (f i))

pub length_step_slots : (p : ℕ) (f : ℕ → Bool) → length (step_slots p f) ≡ p
length_step_slots p f = length_slots p (λ i. step_value (f (back p i 1)) (f i))

pub length_sooner_steps : (p : ℕ) (f : ℕ → Bool) (a : ℕ) → length (sooner (step_slots p f) a) ≡ p
length_sooner_steps p f a = length_slots (length (step_slots p f)) (λ i. earlier values (step_slots p f) (i + a) 0) ∙ length_step_slots p f

pub earlier_sooner_steps : (p : ℕ) (f : ℕ → Bool) (a t o : ℕ) → 0 < p →
    earlier values (sooner (step_slots p f) a) t o ≡ step_value (f (back p (t + a) (o + 1))) (f (back p (t + a) o))
earlier_sooner_steps p f a t o pos =
    let len : length (step_slots p f) ≡ p = length_step_slots p f in
    earlier_slots values (length (step_slots p f)) (λ i. earlier values (step_slots p f) (i + a) 0) t o (omega arith)
    ∙ earlier_slots values p (λ i. step_value (f (back p i 1)) (f i)) (back (length (step_slots p f)) t o + a) 0 pos
    ∙ rw (len, back_sooner p t o a 0) (rw (back_back p (t + a) (o + 0) 1) (rw (let e : o + 0 ≡ o = omega arith in e) refl))

-- ---- the region of an edge

-- a number up to k passes, or none does
found_or_none : (test : ℕ → Bool) (k : ℕ) → ((o : ℕ) × (o ≤ k) × (test o ≡ true)) ⊎ ((o : ℕ) → o ≤ k → test o ≡ true → ⊥)
found_or_none test zero = go (test 0) refl
  where
    go : (b : Bool) → test 0 ≡ b → ((o : ℕ) × (o ≤ 0) × (test o ≡ true)) ⊎ ((o : ℕ) → o ≤ 0 → test o ≡ true → ⊥)
    go true e = inl (0, omega arith, e)
    go false e = inr (λ o l e'. let z : o ≡ 0 = omega arith in let f : test 0 ≡ true = rw z at e' in cc)
found_or_none test (suc k) = go (test (suc k)) refl (found_or_none test k)
  where
    go : (b : Bool) → test (suc k) ≡ b → ((o : ℕ) × (o ≤ k) × (test o ≡ true)) ⊎ ((o : ℕ) → o ≤ k → test o ≡ true → ⊥) →
        ((o : ℕ) × (o ≤ suc k) × (test o ≡ true)) ⊎ ((o : ℕ) → o ≤ suc k → test o ≡ true → ⊥)
    go true e rest = inl (suc k, omega arith, e)
    go false e (inl r) = inl (r.0, (let l : r.0 ≤ k = r.1 in omega arith), r.2)
    go false e (inr none) = inr (λ o l e'. elim (cases_eq o (suc k)) [
      | inl z ↦ (let f : test (suc k) ≡ true = rw z at e' in cc)
      | inr ne ↦ none o (omega arith) e'
    ])

-- from this bit to that one
abbrev steps_to : Bool → Bool → Bool → Bool
steps_to true before after = not before && after
steps_to false before after = before && not after

steps_to_parts : (to before after : Bool) → steps_to to before after ≡ true → (before ≡ not to) × (after ≡ to)
steps_to_parts to before after h = (grind arith, grind arith)

steps_to_from : (to before after : Bool) → before ≡ not to → after ≡ to → steps_to to before after ≡ true
steps_to_from to before after b a = grind arith

near_from : (c : ClockSpec) (h : Header) (early late : ℕ) (to : Bool) (t o : ℕ) → 0 < period h → o ≤ early + late →
    ideal c h (back (period h) (t + early) (o + 1)) ≡ not to → ideal c h (back (period h) (t + early) o) ≡ to →
    (edge : ℕ) × IsInRegion c h early late to edge (back (period h) t 0)
near_from c h early late to t o pos near before after = (
  back (period h) (t + early) o,
  record {
    is_edge = record {
      within = back_lt (period h) (t + early) o pos;
      before = ap (ideal c h) (back_back (period h) (t + early) o 1) ∙ before;
      after = after;
    };
    by = o;
    near = near;
    there = back_sooner (period h) t 0 early o ∙ ap (back (period h) (t + early)) (omega arith);
  },
)

-- an edge to this bit stands o slots back from where the earliest one would
at_edge : (c : ClockSpec) (h : Header) (early late : ℕ) (to : Bool) (t edge : ℕ) → (r : IsInRegion c h early late to edge (back (period h) t 0)) →
    (ideal c h (back (period h) (t + early) (r.by + 1)) ≡ not to) × (ideal c h (back (period h) (t + early) r.by) ≡ to)
at_edge c h early late to t edge r =
    let there : back (period h) (t + early) r.by ≡ edge =
    ap (back (period h) (t + early)) (omega arith) ∙ sym (back_sooner (period h) t 0 early r.by) ∙ r.there in
    let before : back (period h) (t + early) (r.by + 1) ≡ back (period h) edge 1 =
    sym (back_back (period h) (t + early) r.by 1) ∙ ap (λ (z : ℕ). back (period h) z 1) there in
    (ap (ideal c h) before ∙ r.is_edge.before, ap (ideal c h) there ∙ r.is_edge.after)

near_or_not : (c : ClockSpec) (h : Header) (to : Bool) (t : ℕ) → 0 < period h → NearEdge h c to t ⊎ ¬ NearEdge h c to t
near_or_not c h to t pos =
    go (found_or_none (λ o. steps_to to (ideal c h (back (period h) (t + early) (o + 1))) (ideal c h (back (period h) (t + early) o))) (early + late))
  where
    early : ℕ
    early = (skew_of c h.cskew).0

    late : ℕ
    late = (skew_of c h.cskew).1

    test : ℕ → Bool
    test o = steps_to to (ideal c h (back (period h) (t + early) (o + 1))) (ideal c h (back (period h) (t + early) o))

    go : ((o : ℕ) × (o ≤ early + late) × (test o ≡ true)) ⊎ ((o : ℕ) → o ≤ early + late → test o ≡ true → ⊥) → NearEdge h c to t ⊎ ¬ NearEdge h c to t
    go (inl r) =
        let parts = steps_to_parts to (ideal c h (back (period h) (t + early) (r.0 + 1))) (ideal c h (back (period h) (t + early) r.0)) r.2 in
        inl (near_from c h early late to t r.0 pos r.1 parts.0 parts.1)
    go (inr none) = inr (λ near.
        let at = at_edge c h early late to t near.0 near.1 in
        none near.1.by near.1.near (steps_to_from to (ideal c h (back (period h) (t + early) (near.1.by + 1))) (ideal c h (back (period h) (t + early) near.1.by)) at.0 at.1))

-- ---- the wave

-- no more slots than a period has are needed in a fold
fold_capped : (cells : List Value) (p k t o : ℕ) (before after : Bool) → length cells ≡ p → 0 < p → o ≤ k →
    has (earlier values cells t o) before after ≡ true → has (fold_at values cells (min k (p - 1)) t) before after ≡ true
fold_capped cells p k t o before after l pos near h =
    let some : 0 < length cells = omega arith in
    join_to_has values values_lawful (λ i. earlier values cells t i) (min k (p - 1)) (o % length cells) before after
    (omega (arith, mod-lt o some, mod-le o (length cells)))
    (ap (λ c. has c before after) (earlier_period values cells t o) ∙ h)

pub Permits_clock : (h : Header) (c : ClockSpec) (n : ℕ) (x : Signal) → 0 < period h → MeetsClock h c n x →
    Permits values (clock_wave h c) n x 1
Permits_clock h c n x pos meets =
    record {
      offset = 0;
      within = omega arith;
      steps = λ t t1 tv tn.
          let len : length cells ≡ period h = length_sooner_steps (period h) (ideal c h) early in
          ap (λ v. has v (x (t - 1)) (x t)) (earlier_folded values (skewed_clock h c (skew_of c h.cskew)) t (omega (arith, len)))
          ∙ at t t1 tn (near_or_not c h true t pos) (near_or_not c h false t pos);
    }
  where
    early : ℕ
    early = (skew_of c h.cskew).0

    late : ℕ
    late = (skew_of c h.cskew).1

    cells : List Value
    cells = sooner (step_slots (period h) (ideal c h)) early

    -- what an offset permits, the fold does
    by_offset : (t o : ℕ) (before after : Bool) → o ≤ early + late →
        has (step_value (ideal c h (back (period h) (t + early) (o + 1))) (ideal c h (back (period h) (t + early) o))) before after ≡ true →
        has (fold_at values cells (min (early + late) (period h - 1)) t) before after ≡ true
    by_offset t o before after l s =
        fold_capped cells (period h) (early + late) t o before after (length_sooner_steps (period h) (ideal c h) early) pos l
        (ap (λ v. has v before after) (earlier_sooner_steps (period h) (ideal c h) early t o pos) ∙ s)

    at : (t : ℕ) → 1 ≤ t → t < n → NearEdge h c true t ⊎ ¬ NearEdge h c true t → NearEdge h c false t ⊎ ¬ NearEdge h c false t →
        has (fold_at values cells (min (early + late) (period h - 1)) t) (x (t - 1)) (x t) ≡ true
    at t t1 tn (inl near) other =
        let e = at_edge c h early late true t near.0 near.1 in
        by_offset t near.1.by (x (t - 1)) (x t) near.1.near (rw (e.0, e.1) (rise_has (x (t - 1)) (x t) (meets.rises t t1 tn near)))
    at t t1 tn (inr away) (inl near) =
        let e = at_edge c h early late false t near.0 near.1 in
        by_offset t near.1.by (x (t - 1)) (x t) near.1.near (rw (e.0, e.1) (fall_has (x (t - 1)) (x t) (meets.falls t t1 tn near)))
    at t t1 tn (inr away) (inr away') =
        let now : x t ≡ ideal c h (back (period h) (t + early) early) =
        meets.after t t1 tn away away' ∙ ap (ideal c h) (sym (back_later (period h) t early 0 pos) ∙ ap (back (period h) (t + early)) (omega arith)) in
        let before : x (t - 1) ≡ ideal c h (back (period h) (t + early) (early + 1)) =
        meets.before t t1 tn away away' ∙ ap (ideal c h) (sym (back_later (period h) t early 1 pos)) in
        by_offset t early (x (t - 1)) (x t) (omega arith)
        (rw (now, before) (step_has (ideal c h (back (period h) (t + early) (early + 1))) (ideal c h (back (period h) (t + early) early))))
