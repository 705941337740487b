-- What the windows of two delays show in each slot is what their slots hold, and so the values made of
-- them are those of the definition.
use Rattle.std.proofs.Common.{◌≡◌, ℕ, zero, suc, ◌+◌, ◌-◌, ◌<◌, ◌≤◌, ◌⊎◌, inl, inr, nat_le, Bool, true, false, not, ◌&&◌, ◌||◌, if◌then◌else◌, List, length, refl, sym, ap, ◌∙◌, arith}
use Rattle.std.proofs.Math.Bool.{and_self}
use Rattle.std.proofs.lemmas.Bool.{leb-true}
use Rattle.scald_base.specs.Clock.{back}
use Rattle.scald_base.specs.Time.{Bounds}
use Rattle.wave_core.specs.Slots.{earlier}
use Rattle.step_values.specs.declared.value.Value.{Value}
use Rattle.step_values.specs.Steps.{has, join, cover_of, is_unknown}
use Rattle.step_values.specs.Cell.{values}
use Rattle.step_values.specs.Each.{tests_are}
use Rattle.skew_algebra.specs.Wave.{skewed, fold}
use Rattle.flat_circuit.specs.declared.split.Split.{Split}
use Rattle.flat_circuit.specs.Split.{either_delay}
use Rattle.gate_eval.specs.Hold.{staying}
use Rattle.gate_eval.specs.Change.{all_to}
use Rattle.gate_eval.specs.Window.{window}
use Rattle.gate_eval.specs.Split.{some_to, some_before, ends_in, may_rise, may_fall, may_be, may_be_one, may_be_zero, slot_before, split_value}
use Rattle.gate_eval.specs.SplitWindow.{resting, own_bits, both_end, slow_rise_bits, slow_fall_bits, bits_seen, edges, edges_after, edges_from, output_of}
use Rattle.gate_eval.proofs.SplitCovers.{some_bit}
use Rattle.gate_eval.proofs.Windows.{earlier_back, test_window}

-- ---- a join of values loses no step, and has none that neither has

pub join_has : (a b : Bool) (v w : Value) → has (join v w) a b ≡ (has v a b || has w a b)
join_has false false = tests_are (λ v w. has (join v w) false false) (λ v w. has v false false || has w false false) refl
join_has false true = tests_are (λ v w. has (join v w) false true) (λ v w. has v false true || has w false true) refl
join_has true false = tests_are (λ v w. has (join v w) true false) (λ v w. has v true false || has w true false) refl
join_has true true = tests_are (λ v w. has (join v w) true true) (λ v w. has v true true || has w true true) refl

join_ends : (bit : Bool) (v w : Value) → ends_in bit (join v w) ≡ (ends_in bit v || ends_in bit w)
join_ends true = tests_are (λ v w. ends_in true (join v w)) (λ v w. ends_in true v || ends_in true w) refl
join_ends false = tests_are (λ v w. ends_in false (join v w)) (λ v w. ends_in false v || ends_in false w) refl

join_unknown : (v w : Value) → is_unknown (join v w) ≡ (is_unknown v || is_unknown w)
join_unknown = tests_are (λ v w. is_unknown (join v w)) (λ v w. is_unknown v || is_unknown w) refl

-- ---- one window

some_to_not : (f : ℕ → Bool) (n : ℕ) → not (all_to (λ i. not (f i)) n) ≡ some_to f n
some_to_not f zero = twice (f 0)
  where
    twice : (b : Bool) → not (not b) ≡ b
    twice b = grind arith
some_to_not f (suc n) =
    turns (all_to (λ i. not (f i)) n) (f (suc n)) ∙ ap (λ b. b || f (suc n)) (some_to_not f n)
  where
    turns : (a b : Bool) → not (a && not b) ≡ (not a || b)
    turns a b = grind arith

all_to_alike : (f h : ℕ → Bool) (n : ℕ) → ((i : ℕ) → f i ≡ h i) → all_to f n ≡ all_to h n
all_to_alike f h zero e = e 0
all_to_alike f h (suc n) e =
    let before : all_to f n ≡ all_to h n = all_to_alike f h n e in
    let last : f (suc n) ≡ h (suc n) = e (suc n) in
    λ j. before j && last j

-- a test that passes if either of two joined values does
pub window_some : (test : Value → Bool) → ((v w : Value) → test (join v w) ≡ (test v || test w)) → (cells : List Value) (d : Bounds) (p : ℕ) → 0 < length cells →
    test (window (skewed cells 0) d p) ≡ some_before test cells d p
window_some test through cells d p some =
    sym (twice (test (window (skewed cells 0) d p)))
    ∙ ap not (test_window values (λ v. not (test v)) (λ v w. ap not (through v w) ∙ turns (test v) (test w)) (skewed cells 0) d p some
    ∙ all_to_alike (λ i. not (test (fold values (skewed cells 0) (back (length cells) p (d.min + i)))))
    (λ i. not (test (earlier values cells p (d.min + i)))) (d.max - d.min)
    (λ i. ap (λ v. not (test v)) (sym (earlier_back values cells p (d.min + i) 0 (d.min + i) (omega arith)))))
    ∙ some_to_not (λ i. test (earlier values cells p (d.min + i))) (d.max - d.min)
  where
    twice : (b : Bool) → not (not b) ≡ b
    twice b = grind arith

    turns : (a b : Bool) → not (a || b) ≡ (not a && not b)
    turns a b = grind arith

-- ---- the bits and the edges, and what is told by them

ends_staying : (b : Bool) → ends_in true (staying b) ≡ b
ends_staying true = refl
ends_staying false = refl

resting_low : (low high unknown : Bool) → ends_in false (resting low high unknown) ≡ low
resting_low true true true = refl
resting_low true true false = refl
resting_low true false unknown = refl
resting_low false high unknown = refl

resting_high : (low high unknown : Bool) → (high ≡ true) ⊎ (low ≡ true) → ends_in true (resting low high unknown) ≡ high
resting_high true true true some = refl
resting_high true true false some = refl
resting_high true false unknown some = refl
resting_high false true unknown some = refl
resting_high false false unknown (inl h) = sym h
resting_high false false unknown (inr h) = sym h

resting_unknown : (low high unknown : Bool) → is_unknown (resting low high unknown) ≡ (low && (high && unknown))
resting_unknown true true true = refl
resting_unknown true true false = refl
resting_unknown true false unknown = refl
resting_unknown false high unknown = refl

edges_rise : (rises falls : Bool) → may_rise (edges rises falls) ≡ rises
edges_rise true true = refl
edges_rise true false = refl
edges_rise false true = refl
edges_rise false false = refl

edges_fall : (rises falls : Bool) → may_fall (edges rises falls) ≡ falls
edges_fall true true = refl
edges_fall true false = refl
edges_fall false true = refl
edges_fall false false = refl

-- What is unknown only counts if the output may be at both bits.
unknown_counts : (low rises falls high unknown : Bool) →
    cover_of low (high && rises) (low && falls) high (low && (high && unknown)) ≡ cover_of low (high && rises) (low && falls) high unknown
unknown_counts true rises falls true unknown = refl
unknown_counts true rises true false unknown = refl
unknown_counts true rises false false unknown = refl
unknown_counts false true falls true unknown = refl
unknown_counts false false falls true unknown = refl
unknown_counts false rises falls false unknown = refl

module _ (s : Split) (cells : List Value) (some : 0 < length cells) where
  abbrev seen : Bounds → ℕ → Value
  seen d p = window (skewed cells 0) d p

  abbrev pub bits_in : ℕ → Value
  bits_in p = bits_seen s (seen (either_delay s) p) (seen s.rise p) (seen s.fall p)

  abbrev pub edges_in : ℕ → Value
  edges_in p = edges_after (seen s.rise p) (seen s.fall p)

  abbrev pub left_in : ℕ → Value
  left_in p = edges_from (bits_in (slot_before cells p)) (edges_in p)

  abbrev unknown_at : ℕ → Bool
  unknown_at p = some_before is_unknown cells (either_delay s) p

  either_ends : (bit : Bool) (p : ℕ) → ends_in bit (seen (either_delay s) p) ≡ may_be bit false s cells p
  either_ends bit p = window_some (ends_in bit) (join_ends bit) cells (either_delay s) p some

  both_ends : (bit : Bool) (p : ℕ) → ends_in true (both_end bit (seen s.rise p) (seen s.fall p)) ≡ may_be bit true s cells p
  both_ends bit p =
      let rise : ends_in bit (seen s.rise p) ≡ some_before (ends_in bit) cells s.rise p = window_some (ends_in bit) (join_ends bit) cells s.rise p some in
      let fall : ends_in bit (seen s.fall p) ≡ some_before (ends_in bit) cells s.fall p = window_some (ends_in bit) (join_ends bit) cells s.fall p some in
      ends_staying (ends_in bit (seen s.rise p) && ends_in bit (seen s.fall p)) ∙ (λ j. rise j && fall j)

  unknown_is : (p : ℕ) → is_unknown (seen (either_delay s) p) ≡ unknown_at p
  unknown_is p = window_some is_unknown join_unknown cells (either_delay s) p some

  module _ (rise : s.rise.min ≤ s.rise.max) (fall : s.fall.min ≤ s.fall.max) where
    -- if each delay is the longer one whatever both are, they are one delay, and all windows are one
    one_window : (p : ℕ) → nat_le s.fall.max s.rise.min ≡ true → nat_le s.rise.max s.fall.min ≡ true →
        may_be false false s cells p ≡ may_be false true s cells p
    one_window p h h' =
        let l : s.fall.max ≤ s.rise.min = leb-true s.fall.max s.rise.min h in
        let l' : s.rise.max ≤ s.fall.min = leb-true s.rise.max s.fall.min h' in
        sym (and_self (may_be false false s cells p))
        ∙ (λ j. before (same_bounds (either_delay s) s.rise (omega (arith, l, l', rise, fall)) (omega (arith, l, l', rise, fall)) j)
        && before (same_bounds (either_delay s) s.fall (omega (arith, l, l', rise, fall)) (omega (arith, l, l', rise, fall)) j))
      where
        same_bounds : (d d' : Bounds) → d.min ≡ d'.min → d.max ≡ d'.max → d ≡ d'
        same_bounds d d' low high = λ j. record { min = low j; max = high j }

        before : Bounds → Bool
        before d = some_before (ends_in false) cells d p

    -- the bits that are seen are those of the definition
    bits_by : (is_slow_rise is_slow_fall : Bool) (p : ℕ) →
        (is_slow_rise ≡ true → is_slow_fall ≡ true → may_be false false s cells p ≡ may_be false true s cells p) →
        (if is_slow_rise then slow_rise_bits (seen (either_delay s) p) (both_end true (seen s.rise p) (seen s.fall p))
        else if is_slow_fall then slow_fall_bits (seen (either_delay s) p) (both_end false (seen s.rise p) (seen s.fall p))
        else own_bits (seen (either_delay s) p))
        ≡ resting (may_be false is_slow_fall s cells p) (may_be true is_slow_rise s cells p) (unknown_at p)
    bits_by true true p same = λ j. resting ((either_ends false p ∙ same refl refl) j) (both_ends true p j) (unknown_is p j)
    bits_by true false p same = λ j. resting (either_ends false p j) (both_ends true p j) (unknown_is p j)
    bits_by false true p same = λ j. resting (both_ends false p j) (either_ends true p j) (unknown_is p j)
    bits_by false false p same = λ j. resting (either_ends false p j) (either_ends true p j) (unknown_is p j)

    bits_are : (p : ℕ) → bits_in p ≡ resting (may_be_zero s cells p) (may_be_one s cells p) (unknown_at p)
    bits_are p = bits_by (nat_le s.fall.max s.rise.min) (nat_le s.rise.max s.fall.min) p (one_window p)

    low_is : (p : ℕ) → ends_in false (bits_in p) ≡ may_be_zero s cells p
    low_is p =
        ap (ends_in false) (bits_are p) ∙ resting_low (may_be_zero s cells p) (may_be_one s cells p) (unknown_at p)

    high_is : (p : ℕ) → ends_in true (bits_in p) ≡ may_be_one s cells p
    high_is p =
        ap (ends_in true) (bits_are p)
        ∙ resting_high (may_be_zero s cells p) (may_be_one s cells p) (unknown_at p) (some_bit s cells p rise fall)

    rise_left : (p : ℕ) → may_rise (left_in p) ≡ (may_be_zero s cells (slot_before cells p) && some_before may_rise cells s.rise p)
    rise_left p =
        let rises : may_rise (edges_in p) ≡ some_before may_rise cells s.rise p =
        edges_rise (may_rise (seen s.rise p)) (may_fall (seen s.fall p)) ∙ window_some may_rise (join_has false true) cells s.rise p some in
        edges_rise (ends_in false (bits_in (slot_before cells p)) && may_rise (edges_in p)) (ends_in true (bits_in (slot_before cells p)) && may_fall (edges_in p))
        ∙ (λ j. low_is (slot_before cells p) j && rises j)

    fall_left : (p : ℕ) → may_fall (left_in p) ≡ (may_be_one s cells (slot_before cells p) && some_before may_fall cells s.fall p)
    fall_left p =
        let falls : may_fall (edges_in p) ≡ some_before may_fall cells s.fall p =
        edges_fall (may_rise (seen s.rise p)) (may_fall (seen s.fall p)) ∙ window_some may_fall (join_has true false) cells s.fall p some in
        edges_fall (ends_in false (bits_in (slot_before cells p)) && may_rise (edges_in p)) (ends_in true (bits_in (slot_before cells p)) && may_fall (edges_in p))
        ∙ (λ j. high_is (slot_before cells p) j && falls j)

    -- the value that is made of the bits of a slot, those of the slot before, and the edges
    pub value_is : (p : ℕ) → output_of (bits_in p) (left_in p) ≡ split_value s cells p
    value_is p =
        let unknown : is_unknown (bits_in p) ≡ (may_be_zero s cells p && (may_be_one s cells p && unknown_at p)) =
        ap is_unknown (bits_are p) ∙ resting_unknown (may_be_zero s cells p) (may_be_one s cells p) (unknown_at p) in
        (λ j. cover_of (low_is p j) (high_is p j && rise_left p j) (low_is p j && fall_left p j) (high_is p j) (unknown j))
        ∙ unknown_counts (may_be_zero s cells p) (may_be_zero s cells (slot_before cells p) && some_before may_rise cells s.rise p)
        (may_be_one s cells (slot_before cells p) && some_before may_fall cells s.fall p) (may_be_one s cells p) (unknown_at p)
