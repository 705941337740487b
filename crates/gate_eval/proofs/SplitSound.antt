-- A gate with two delays is sound: its wave permits each output that obeys the equation.
use Rattle.std.proofs.Common.{◌≡◌, ℕ, zero, suc, ◌+◌, ◌-◌, ◌<◌, ◌≤◌, min, max, nat_le, Bool, true, false, not, ◌&&◌, List, length, get_or, refl, sym, ap, ◌∙◌, inl, inr, Option, arith}
use Rattle.std.proofs.lemmas.Bool.{and_from, or_left, or_right, cases_eq, leb-true}
use Rattle.scald_base.specs.Clock.{back}
use Rattle.scald_base.specs.Time.{Bounds}
use Rattle.scald_base.specs.Signal.{Signal}
use Rattle.scald_base.proofs.Back.{back_later, back_back}
use Rattle.wave_core.specs.Slots.{slots, earlier}
use Rattle.wave_core.proofs.Slots.{length_slots, earlier_slots}
use Rattle.step_values.specs.declared.value.Value.{Value}
use Rattle.step_values.specs.declared.value.Value.TheVariants.{U}
use Rattle.step_values.specs.Steps.{has, is_unknown}
use Rattle.step_values.specs.Cell.{values}
use Rattle.step_values.specs.Lawful.{values_lawful}
use Rattle.step_values.proofs.Permits.{cover_has}
use Rattle.skew_algebra.specs.Wave.{Wave}
use Rattle.skew_algebra.specs.Permits.{Permits}
use Rattle.skew_algebra.proofs.Moves.{Permits_normal}
use Rattle.element_kinds.specs.declared.kind.Kind.{Kind}
use Rattle.flat_circuit.specs.declared.split.Split.{Split}
use Rattle.element_kinds.specs.Equation.{gate_bit, bits_at}
use Rattle.flat_circuit.specs.Run.{Within}
use Rattle.flat_circuit.specs.Split.{either_delay, split_bit}
use Rattle.flat_circuit.proofs.Splits.{Came, came_one, came_zero, came_step, came_both, came_some}
use Rattle.gate_eval.specs.Meeting.{period_of}
use Rattle.gate_eval.specs.Hold.{hazard}
use Rattle.gate_eval.specs.Instance.{MarkFits, gate_image}
use Rattle.gate_eval.specs.Split.{some_to, some_before, ends_in, may_rise, may_fall, may_be, may_be_one, may_be_zero, slot_before, split_steps, split_value, late_by_two, split_wave, IsSplitSound}
use Rattle.gate_eval.proofs.Fitting.{AllFit}
use Rattle.gate_eval.proofs.Windows.{earlier_back}
use Rattle.gate_eval.proofs.Sound.{image_sound, length_image}

-- ---- slots that pass

some_to_from : (f : ℕ → Bool) (n i : ℕ) → i ≤ n → f i ≡ true → some_to f n ≡ true
some_to_from f zero i below h = ap f (let e : 0 ≡ i = omega arith in e) ∙ h
some_to_from f (suc n) i below h = elim (cases_eq i (suc n)) [
  | inl e ↦ or_right (some_to f n) (f (suc n)) (ap f (sym e) ∙ h)
  | inr ne ↦ or_left (some_to f n) (f (suc n)) (some_to_from f n i (omega arith) h)
]

-- a slot that lies a delay within the bounds before
pub before_from : (test : Value → Bool) (cells : List Value) (d : Bounds) (p j : ℕ) → d.min ≤ j → j ≤ d.max → test (earlier values cells p j) ≡ true →
    some_before test cells d p ≡ true
before_from test cells d p j low high h =
    some_to_from (λ i. test (earlier values cells p (d.min + i))) (d.max - d.min) (j - d.min) (omega arith)
    (ap (λ (o : ℕ). test (earlier values cells p o)) (let e : d.min + (j - d.min) ≡ j = omega arith in e) ∙ h)

ends_has : (bit : Bool) (v : Value) (a b : Bool) → b ≡ bit → has v a b ≡ true → ends_in bit v ≡ true
ends_has bit v true b e h = or_right (has v false bit) (has v true bit) (ap (has v true) (sym e) ∙ h)
ends_has bit v false b e h = or_left (has v false bit) (has v true bit) (ap (has v false) (sym e) ∙ h)

-- The slot j before p has the step of z at t - j, for each j that is not too far and not too near.
record Sees (cells : List Value) (z : Signal) (p t first near : ℕ) : Type 0 where
  pub sees : (j : ℕ) → near ≤ j → first + j ≤ t → has (earlier values cells p j) (z (t - j - 1)) (z (t - j)) ≡ true

-- the same a slot and a tick before
Sees_before : (cells : List Value) (z : Signal) (p t first near : ℕ) → 1 ≤ t → Sees cells z p t first near → Sees cells z (slot_before cells p) (t - 1) first near
Sees_before cells z p t first near t1 s = record {
  sees = λ j low high.
      ap (λ v. has v (z (t - 1 - j - 1)) (z (t - 1 - j))) (sym (earlier_back values cells p 1 j (1 + j) refl))
      ∙ ap (λ (u : ℕ). has (earlier values cells p (1 + j)) (z (u - 1)) (z u)) (let e : t - 1 - j ≡ t - (1 + j) = omega arith in e)
      ∙ s.sees (1 + j) (omega arith) (omega arith);
}

-- ---- the bits that the output may be at

module _ (s : Split) (cells : List Value) (z : Signal) (rise fall first : ℕ) (rises : Within s.rise rise) (falls : Within s.fall fall) where
  low_rise : s.rise.min ≤ rise
  low_rise = rises.0

  high_rise : rise ≤ s.rise.max
  high_rise = rises.1

  low_fall : s.fall.min ≤ fall
  low_fall = falls.0

  high_fall : fall ≤ s.fall.max
  high_fall = falls.1

  module _ (p t : ℕ) (far : first + (either_delay s).max ≤ t) (seen : Sees cells z p t first (either_delay s).min) where
    ends : (bit : Bool) (d : Bounds) (j : ℕ) → d.min ≤ j → j ≤ d.max → (either_delay s).min ≤ j → j ≤ (either_delay s).max → z (t - j) ≡ bit →
        some_before (ends_in bit) cells d p ≡ true
    ends bit d j low high low' high' e =
        before_from (ends_in bit) cells d p j low high
        (ends_has bit (earlier values cells p j) (z (t - j - 1)) (z (t - j)) e (seen.sees j low' (omega arith)))

    held : (bit is_longer : Bool) → (is_longer ≡ true → (z (t - rise) ≡ bit) × (z (t - fall) ≡ bit)) →
        (j : ℕ) × (min rise fall ≤ j) × (j ≤ max rise fall) × (z (t - j) ≡ bit) → may_be bit is_longer s cells p ≡ true
    held bit true both some =
        let ends_are : (z (t - rise) ≡ bit) × (z (t - fall) ≡ bit) = both refl in
        let lr = low_rise in let hr = high_rise in let lf = low_fall in let hf = high_fall in
        and_from (some_before (ends_in bit) cells s.rise p) (some_before (ends_in bit) cells s.fall p)
        (ends bit s.rise rise low_rise high_rise (omega (arith, lr, hr)) (omega (arith, lr, hr)) ends_are.0)
        (ends bit s.fall fall low_fall high_fall (omega (arith, lf, hf)) (omega (arith, lf, hf)) ends_are.1)
    held bit false both some =
        let lr = low_rise in let hr = high_rise in let lf = low_fall in let hf = high_fall in
        let low = some.1 in let high = some.2 in
        ends bit (either_delay s) some.0 (omega (arith, lr, hr, lf, hf, low)) (omega (arith, lr, hr, lf, hf, high))
        (omega (arith, lr, hr, lf, hf, low)) (omega (arith, lr, hr, lf, hf, high)) some.3

    one_held : Came true z t rise fall → may_be_one s cells p ≡ true
    one_held came =
        held true (nat_le s.fall.max s.rise.min)
        (λ longer. let l : s.fall.max ≤ s.rise.min = leb-true s.fall.max s.rise.min longer in
        let lr = low_rise in let hf = high_fall in
        came_both true z t rise fall (omega (arith, l, lr, hf)) came)
        (came_some true z t rise fall came)

    zero_held : Came false z t fall rise → may_be_zero s cells p ≡ true
    zero_held came =
        held false (nat_le s.rise.max s.fall.min)
        (λ longer. let l : s.rise.max ≤ s.fall.min = leb-true s.rise.max s.fall.min longer in
        let hr = high_rise in let lf = low_fall in
        let both : (z (t - fall) ≡ false) × (z (t - rise) ≡ false) = came_both false z t fall rise (omega (arith, l, hr, lf)) came in
        (both.1, both.0))
        (let some : (j : ℕ) × (min fall rise ≤ j) × (j ≤ max fall rise) × (z (t - j) ≡ false) = came_some false z t fall rise came in
        let low = some.1 in let high = some.2 in
        (some.0, omega (arith, low), omega (arith, high), some.3))

  -- ---- a step of the output

  module _ (p t : ℕ) (far : first + (either_delay s).max + 1 ≤ t) (seen : Sees cells z p t first (either_delay s).min) where
    seen_before : Sees cells z (slot_before cells p) (t - 1) first (either_delay s).min
    seen_before = Sees_before cells z p t first (either_delay s).min (omega arith) seen

    stepped : (bit : Bool) (own : ℕ) (d : Bounds) → d.min ≤ own → own ≤ d.max → (either_delay s).min ≤ own → own ≤ (either_delay s).max →
        (z (t - own - 1) ≡ not bit) × (z (t - own) ≡ bit) → some_before (λ v. has v (not bit) bit) cells d p ≡ true
    stepped bit own d low high low' high' step =
        before_from (λ v. has v (not bit) bit) cells d p own low high
        ((λ i. has (earlier values cells p own) (sym step.0 i) (sym step.1 i)) ∙ seen.sees own low' (omega arith))

    step_has : (a b : Bool) → a ≡ split_bit z rise fall (t - 1) → b ≡ split_bit z rise fall t → split_steps s cells p a b ≡ true
    step_has a b before now = by a b before now
      where
        inside : (rise ≤ t - 1) × (fall ≤ t - 1)
        inside =
            let hr = high_rise in let hf = high_fall in (omega (arith, hr, far), omega (arith, hf, far))

        inside_now : (rise ≤ t) × (fall ≤ t)
        inside_now =
            let hr = high_rise in let hf = high_fall in (omega (arith, hr, far), omega (arith, hf, far))

        is_one : true ≡ split_bit z rise fall t → Came true z t rise fall
        is_one e = came_one z rise fall t inside_now.0 inside_now.1 (sym e)

        is_zero : false ≡ split_bit z rise fall t → Came false z t fall rise
        is_zero e = came_zero z rise fall t inside_now.0 inside_now.1 (sym e)

        was_one : true ≡ split_bit z rise fall (t - 1) → Came true z (t - 1) rise fall
        was_one e = came_one z rise fall (t - 1) inside.0 inside.1 (sym e)

        was_zero : false ≡ split_bit z rise fall (t - 1) → Came false z (t - 1) fall rise
        was_zero e = came_zero z rise fall (t - 1) inside.0 inside.1 (sym e)

        by : (a b : Bool) → a ≡ split_bit z rise fall (t - 1) → b ≡ split_bit z rise fall t → split_steps s cells p a b ≡ true
        by false false e f = zero_held p t (omega arith) seen (is_zero f)
        by true true e f = one_held p t (omega arith) seen (is_one f)
        by false true e f =
            let lr = low_rise in let hr = high_rise in
            and_from (may_be_one s cells p) (may_be_zero s cells (slot_before cells p) && some_before may_rise cells s.rise p)
            (one_held p t (omega arith) seen (is_one f))
            (and_from (may_be_zero s cells (slot_before cells p)) (some_before may_rise cells s.rise p)
            (zero_held (slot_before cells p) (t - 1) (omega arith) seen_before (was_zero e))
            (stepped true rise s.rise low_rise high_rise (omega (arith, lr, hr)) (omega (arith, lr, hr))
            (came_step true z t rise fall (omega arith) (was_zero e) (is_one f))))
        by true false e f =
            let lf = low_fall in let hf = high_fall in
            and_from (may_be_zero s cells p) (may_be_one s cells (slot_before cells p) && some_before may_fall cells s.fall p)
            (zero_held p t (omega arith) seen (is_zero f))
            (and_from (may_be_one s cells (slot_before cells p)) (some_before may_fall cells s.fall p)
            (one_held (slot_before cells p) (t - 1) (omega arith) seen_before (was_one e))
            (stepped false fall s.fall low_fall high_fall (omega (arith, lf, hf)) (omega (arith, lf, hf))
            (came_step false z t fall rise (omega arith) (was_one e) (is_zero f))))

-- ---- one wave, late by two delays

-- the slot j before the one of a tick is that of the tick j before
at_tick : (cells : List Value) (t j o : ℕ) → 0 < length cells → j ≤ t → earlier values cells (back (length cells) t o) j ≡ earlier values cells (t - j) o
unfolding earlier
at_tick cells t j o some below =
    ap (λ (i : ℕ). get_or cells i U)
    (back_back (length cells) t o j
    ∙ ap (back (length cells) t) (let e : o + j ≡ j + o = omega arith in e)
    ∙ ap (λ (u : ℕ). back (length cells) u (j + o)) (let e : t ≡ t - j + j = omega arith in e)
    ∙ back_later (length cells) (t - j) j o some)

Permits_late : (s : Split) (w : Wave Value) (z y : Signal) (n m v rise fall : ℕ) → 0 < length w.cells → Permits values w n z v → 1 ≤ v →
    Within s.rise rise → Within s.fall fall → m ≤ n + (either_delay s).min →
    ((t : ℕ) → v + (either_delay s).max ≤ t → t < m → y t ≡ split_bit z rise fall t) → Permits values (late_by_two w s) m y (v + (either_delay s).max + 1)
Permits_late s w z y n m v rise fall some pw v1 rises falls mn obeys =
    record {
      offset = pw.offset;
      within = pw.within;
      steps = λ t t1 tv tm.
          ap (λ c. has c (y (t - 1)) (y t)) (earlier_slots values (length w.cells) (split_value s w.cells) t pw.offset some)
          ∙ cover_has (split_steps s w.cells (back (length w.cells) t pw.offset))
          (some_before is_unknown w.cells (either_delay s) (back (length w.cells) t pw.offset)) (y (t - 1)) (y t)
          (step_has s w.cells z rise fall v rises falls (back (length w.cells) t pw.offset) t (omega arith) (sees t tv tm) (y (t - 1)) (y t)
          (obeys (t - 1) (omega arith) (omega arith)) (obeys t (omega arith) tm));
    }
  where
    sees : (t : ℕ) → v + (either_delay s).max + 1 ≤ t → t < m → Sees w.cells z (back (length w.cells) t pw.offset) t v (either_delay s).min
    sees t tv tm = record {
      sees = λ j low high.
          ap (λ c. has c (z (t - j - 1)) (z (t - j))) (at_tick w.cells t j pw.offset some (omega arith))
          ∙ pw.steps (t - j) (omega arith) (omega arith) (omega arith);
    }

-- ---- the gate

pub split_sound : (kind : Kind) (waves : List (Wave Value)) (marked : Option ℕ) (s : Split) → MarkFits kind marked (length waves) →
    0 < period_of waves → AllFit values (period_of waves) waves → IsSplitSound kind s waves (split_wave kind waves marked s)
unfolding split_wave
split_sound kind waves marked s mark some fits = λ n m v rise fall xs y ps v1 rises falls mn obeys.
    let long : length (gate_image kind waves marked).cells ≡ period_of waves =
    length_image kind waves n xs v some fits ps marked (hazard kind waves marked) mark in
    let same : length (slots (length (gate_image kind waves marked).cells) (split_value s (gate_image kind waves marked).cells)) ≡ length (gate_image kind waves marked).cells =
    length_slots (length (gate_image kind waves marked).cells) (split_value s (gate_image kind waves marked).cells) in
    Permits_normal values values_lawful (late_by_two (gate_image kind waves marked) s) (omega (arith, long, same)) m (v + (either_delay s).max + 1) y
    (Permits_late s (gate_image kind waves marked) (λ t. gate_bit kind (bits_at xs t)) y n m v rise fall (omega (arith, long))
    (image_sound kind waves n xs v some fits ps marked (hazard kind waves marked) refl mark) v1 rises falls mn obeys)
