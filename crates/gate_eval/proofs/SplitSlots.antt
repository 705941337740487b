-- The waves that are made of the windows of two delays, slot by slot.
use Rattle.std.proofs.Common.{◌≡◌, ℕ, ◌<◌, ◌≤◌, nat_le, true, false, if◌then◌else◌, List, length, map, Option, sym, ap, ◌∙◌}
use Rattle.std.specs.List.{zip}
use Rattle.scald_base.specs.Clock.{back}
use Rattle.scald_base.specs.Time.{Bounds}
use Rattle.wave_core.specs.Slots.{slots, later, earlier}
use Rattle.wave_core.proofs.Slots.{length_slots, get_or_slots, earlier_slots}
use Rattle.step_values.specs.declared.value.Value.{Value}
use Rattle.step_values.specs.Cell.{values}
use Rattle.skew_algebra.specs.Wave.{Wave, skewed, cell_at, normal}
use Rattle.element_kinds.specs.declared.kind.Kind.{Kind}
use Rattle.flat_circuit.specs.declared.split.Split.{Split}
use Rattle.flat_circuit.specs.Split.{either_delay}
use Rattle.gate_eval.specs.Window.{window}
use Rattle.gate_eval.specs.Split.{slot_before, split_value, late_by_two, split_wave}
use Rattle.gate_eval.specs.Instance.{gate_image}
use Rattle.gate_eval.specs.SplitWindow.{own_bits, both_end, slow_rise_bits, slow_fall_bits, bits_seen, bits_at, edges_after, edges_from, output_of}
use Rattle.gate_eval.proofs.Few.{as_slots, zipped}
use Rattle.gate_eval.proofs.Gathered.{slots_same}
use Rattle.gate_eval.proofs.Passed.{own_slots}
use Rattle.gate_eval.proofs.Seen.{slots_map}
use Rattle.gate_eval.proofs.SplitWindows.{bits_in, edges_in, left_in, value_is}

-- ---- the bits, by which delay is never the shorter one

module _ (s : Split) (either rise fall : List Value) (rise_long : length rise ≡ length either) (fall_long : length fall ≡ length either) where
  both_slots : (f : Value → Value → Value) (both : List Value) → both ≡ map (λ (q : Value × Value). f q.0 q.1) (zip rise fall) →
      both ≡ slots (length either) (λ p. f (cell_at values rise p) (cell_at values fall p))
  both_slots f both is =
      is ∙ zipped f rise fall (length either) (cell_at values rise) (cell_at values fall)
      (as_slots rise (length either) rise_long) (as_slots fall (length either) fall_long)

  pub slow_rise_made : (both w : List Value) → nat_le s.fall.max s.rise.min ≡ true → both ≡ map (λ (q : Value × Value). both_end true q.0 q.1) (zip rise fall) →
      w ≡ map (λ (q : Value × Value). slow_rise_bits q.0 q.1) (zip either both) → w ≡ slots (length either) (bits_at s either rise fall)
  slow_rise_made both w is_slow both_is is =
      is ∙ zipped slow_rise_bits either both (length either) (cell_at values either)
      (λ p. both_end true (cell_at values rise p) (cell_at values fall p)) (sym (own_slots either)) (both_slots (both_end true) both both_is)
      ∙ (λ j. slots (length either) (λ p. if sym is_slow j
      then slow_rise_bits (cell_at values either p) (both_end true (cell_at values rise p) (cell_at values fall p))
      else if nat_le s.rise.max s.fall.min
      then slow_fall_bits (cell_at values either p) (both_end false (cell_at values rise p) (cell_at values fall p))
      else own_bits (cell_at values either p)))

  pub slow_fall_made : (both w : List Value) → nat_le s.fall.max s.rise.min ≡ false → nat_le s.rise.max s.fall.min ≡ true →
      both ≡ map (λ (q : Value × Value). both_end false q.0 q.1) (zip rise fall) →
      w ≡ map (λ (q : Value × Value). slow_fall_bits q.0 q.1) (zip either both) → w ≡ slots (length either) (bits_at s either rise fall)
  slow_fall_made both w not_rise is_slow both_is is =
      is ∙ zipped slow_fall_bits either both (length either) (cell_at values either)
      (λ p. both_end false (cell_at values rise p) (cell_at values fall p)) (sym (own_slots either)) (both_slots (both_end false) both both_is)
      ∙ (λ j. slots (length either) (λ p. if sym not_rise j
      then slow_rise_bits (cell_at values either p) (both_end true (cell_at values rise p) (cell_at values fall p))
      else if sym is_slow j
      then slow_fall_bits (cell_at values either p) (both_end false (cell_at values rise p) (cell_at values fall p))
      else own_bits (cell_at values either p)))

  pub own_made : (w : List Value) → nat_le s.fall.max s.rise.min ≡ false → nat_le s.rise.max s.fall.min ≡ false →
      w ≡ map own_bits either → w ≡ slots (length either) (bits_at s either rise fall)
  own_made w not_rise not_fall is =
      is ∙ ap (map own_bits) (sym (own_slots either)) ∙ slots_map own_bits (length either) (cell_at values either)
      ∙ (λ j. slots (length either) (λ p. if sym not_rise j
      then slow_rise_bits (cell_at values either p) (both_end true (cell_at values rise p) (cell_at values fall p))
      else if sym not_fall j
      then slow_fall_bits (cell_at values either p) (both_end false (cell_at values rise p) (cell_at values fall p))
      else own_bits (cell_at values either p)))

-- ---- all slots

later_slots : (n : ℕ) (f : ℕ → Value) → 0 < n → later values (slots n f) 1 ≡ slots n (λ p. f (back n p 1))
later_slots n f some =
    ap (λ (m : ℕ). slots m (λ p. earlier values (slots n f) p 1)) (length_slots n f)
    ∙ slots_same n (λ p. earlier values (slots n f) p 1) (λ p. f (back n p 1)) (λ p below. earlier_slots values n f p 1 some)

-- lists as long as the wave, or as two others

pub window_long : (l cells : List Value) (d : Bounds) → l ≡ slots (length cells) (window (skewed cells 0) d) → length l ≡ length cells
window_long l cells d e = ap length e ∙ length_slots (length cells) (window (skewed cells 0) d)

pub zipped_long : (f : Value → Value → Value) (xs ys l : List Value) (n : ℕ) → l ≡ map (λ (q : Value × Value). f q.0 q.1) (zip xs ys) →
    length xs ≡ n → length ys ≡ n → length l ≡ n
zipped_long f xs ys l n is xs_long ys_long =
    ap length (is ∙ zipped f xs ys n (cell_at values xs) (cell_at values ys) (as_slots xs n xs_long) (as_slots ys n ys_long))
    ∙ length_slots n (λ p. f (cell_at values xs p) (cell_at values ys p))

pub made_long : (s : Split) (cells either rise fall bits : List Value) → either ≡ slots (length cells) (window (skewed cells 0) (either_delay s)) →
    bits ≡ slots (length either) (bits_at s either rise fall) → length bits ≡ length cells
made_long s cells either rise fall bits either_is is =
    ap length is ∙ length_slots (length either) (bits_at s either rise fall) ∙ window_long either cells (either_delay s) either_is

-- A window as a list and as a function of the slot is one, so what is made of windows is what is made of
-- their slots.
pub split_slots : (s : Split) (cells either rise fall bits before edges left late : List Value) → 0 < length cells →
    s.rise.min ≤ s.rise.max → s.fall.min ≤ s.fall.max →
    either ≡ slots (length cells) (window (skewed cells 0) (either_delay s)) → rise ≡ slots (length cells) (window (skewed cells 0) s.rise) →
    fall ≡ slots (length cells) (window (skewed cells 0) s.fall) →
    bits ≡ slots (length either) (bits_at s either rise fall) →
    before ≡ later values bits 1 → edges ≡ map (λ (q : Value × Value). edges_after q.0 q.1) (zip rise fall) →
    left ≡ map (λ (q : Value × Value). edges_from q.0 q.1) (zip before edges) →
    late ≡ map (λ (q : Value × Value). output_of q.0 q.1) (zip bits left) → late ≡ slots (length cells) (split_value s cells)
split_slots s cells either rise fall bits before edges left late some rise_ordered fall_ordered
    either_is rise_is fall_is bits_is before_is edges_is left_is late_is =
    late_is ∙ zipped output_of bits left n (bits_in s cells some) (left_in s cells some) bits_slots left_slots
    ∙ slots_same n (λ p. output_of (bits_in s cells some p) (left_in s cells some p)) (split_value s cells)
    (λ p below. value_is s cells some rise_ordered fall_ordered p)
  where
    n : ℕ
    n = length cells

    here : (l : List Value) (d : Bounds) → l ≡ slots n (window (skewed cells 0) d) → (p : ℕ) → p < n → cell_at values l p ≡ window (skewed cells 0) d p
    here l d e p below = ap (λ m. cell_at values m p) e ∙ get_or_slots n p (window (skewed cells 0) d) values.any below

    bits_slots : bits ≡ slots n (bits_in s cells some)
    bits_slots =
        bits_is
        ∙ ap (λ (m : ℕ). slots m (bits_at s either rise fall)) (window_long either cells (either_delay s) either_is)
        ∙ slots_same n (bits_at s either rise fall) (bits_in s cells some)
        (λ p below j. bits_seen s (here either (either_delay s) either_is p below j) (here rise s.rise rise_is p below j) (here fall s.fall fall_is p below j))

    before_slots : before ≡ slots n (λ p. bits_in s cells some (slot_before cells p))
    before_slots = before_is ∙ ap (λ l. later values l 1) bits_slots ∙ later_slots n (bits_in s cells some) some

    edges_slots : edges ≡ slots n (edges_in s cells some)
    edges_slots = edges_is ∙ zipped edges_after rise fall n (window (skewed cells 0) s.rise) (window (skewed cells 0) s.fall) rise_is fall_is

    left_slots : left ≡ slots n (left_in s cells some)
    left_slots =
        left_is ∙ zipped edges_from before edges n (λ p. bits_in s cells some (slot_before cells p)) (edges_in s cells some) before_slots edges_slots

-- what is made of the image, by the cells and the skew that code has
pub split_by : (kind : Kind) (waves : List (Wave Value)) (marked : Option ℕ) (s : Split) (cells late : List Value) (skew : ℕ) →
    late ≡ slots (length cells) (split_value s cells) → skewed cells skew ≡ gate_image kind waves marked →
    normal values (skewed late skew) ≡ split_wave kind waves marked s
unfolding split_wave
split_by kind waves marked s cells late skew is made =
    ap (λ l. normal values (skewed l skew)) is ∙ ap (λ z. normal values (late_by_two z s)) made
