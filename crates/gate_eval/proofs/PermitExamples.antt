-- Which signals a wave permits, as a test that computes, and tables of them. Signals are written as
-- texts of 0s and 1s, with tick 0 first.
use Rattle.std.proofs.Common.{◌≡◌, ℕ, suc, ◌+◌, ◌-◌, ◌<◌, ◌≤◌, Bool, true, false, not, ◌||◌, List, [], ◌∷◌, length, get_or, nat_le, refl, arith, All, Decides}
use Prim.Native.String.{String}
use Rattle.std.specs.List.{list_all}
use Rattle.std.proofs.lemmas.Bool.Decides.{Decides-like, Decides-not}
use Rattle.scald_base.specs.Clock.{back}
use Rattle.scald_base.specs.Time.{Bounds}
use Rattle.scald_base.specs.Signal.{Signal}
use Rattle.wave_core.specs.Slots.{earlier}
use Rattle.step_values.specs.declared.value.Value.{Value}
use Rattle.step_values.specs.declared.value.Value.TheVariants.{Zero, One, S, C, R, F}
use Rattle.step_values.specs.Steps.{has}
use Rattle.step_values.specs.Cell.{values}
use Rattle.skew_algebra.specs.Wave.{Wave, skewed}
use Rattle.skew_algebra.specs.Permits.{Permits, KeepsMoved}
use Rattle.element_kinds.specs.declared.kind.Kind.{Kind}
use Rattle.element_kinds.specs.Equation.{Equation}
use Rattle.flat_circuit.specs.declared.split.Split.{Split}
use Rattle.flat_circuit.specs.Run.{DelayFits, Within}
use Rattle.flat_circuit.specs.Split.{SplitEquation}
use Rattle.flat_circuit.proofs.Deciding.{at_most_tells, if_tells, all_tells, each_below, below_tells, some_below, some_tells}
use Rattle.flat_circuit.proofs.RunTables.{bits}
use Rattle.gate_eval.specs.Permitted.{AllPermit}
use Rattle.gate_eval.specs.Instance.{IsSound}
use Rattle.gate_eval.specs.Split.{IsSplitSound}

-- ---- the test

-- a step at a tick of v or later, and of 1 or later, is in the slot so many before
abbrev Passes : Wave Value → Signal → ℕ → ℕ → ℕ → Type 0
Passes w x v offset t =
    1 ≤ t → v ≤ t → has (earlier values w.cells t offset) (x (t - 1)) (x t) ≡ true

abbrev passes : Wave Value → Signal → ℕ → ℕ → ℕ → Bool
passes w x v offset t =
    not (nat_le 1 t) || (not (nat_le v t) || has (earlier values w.cells t offset) (x (t - 1))
    (x t))

passes_tells : (w : Wave Value) (x : Signal) (v offset t : ℕ) →
    Decides (passes w x v offset t) (Passes w x v offset t)
passes_tells w x v offset t =
    if_tells (nat_le 1 t) _ (at_most_tells 1 t)
    (if_tells (nat_le v t) (has (earlier values w.cells t offset) (x (t - 1)) (x t))
    (at_most_tells v t) (λ h. h, λ h. h))

abbrev permits_late : Wave Value → ℕ → Signal → ℕ → ℕ → Bool
permits_late w n x v offset = each_below (passes w x v offset) n

abbrev PermitsLate : Wave Value → ℕ → Signal → ℕ → ℕ → Type 0
PermitsLate w n x v offset = (t : ℕ) → t < n → Passes w x v offset t

abbrev permits : Wave Value → ℕ → Signal → ℕ → Bool
permits w n x v = some_below (permits_late w n x v) (suc w.skew)

permits_tells : (w : Wave Value) (n : ℕ) (x : Signal) (v : ℕ) →
    Decides (permits w n x v) (Permits values w n x v)
permits_tells w n x v =
    Decides-like (permits w n x v)
    (λ h. let below : h.0 < suc w.skew = h.1 in
    record { offset = h.0; within = omega arith; steps = λ t one late less. h.2 t less one late })
    (λ h. (
      h.offset,
      (let within : h.offset ≤ w.skew = h.within in omega arith),
      λ t less one late.
          h.steps t one late less,
    ))
    (some_tells (permits_late w n x v) (PermitsLate w n x v)
    (λ offset. below_tells (passes w x v offset) (Passes w x v offset)
    (passes_tells w x v offset) n) (suc w.skew))

-- ---- tables

abbrev pub signal : String → Signal
signal text t = get_or (bits text) t false

abbrev permitted : Wave Value → ℕ → String → Bool
permitted w v text = permits w (length (bits text)) (signal text) v

abbrev IsPermitted : Wave Value → ℕ → String → Type 0
IsPermitted w v text = Permits values w (length (bits text)) (signal text) v

record ArePermitted (w : Wave Value) (v : ℕ) (texts : List String) : Type 0 where
  each : All (IsPermitted w v) texts

record NoneIsPermitted (w : Wave Value) (v : ℕ) (texts : List String) : Type 0 where
  each : All (λ text. ¬ (IsPermitted w v text)) texts

permitted_tells : (w : Wave Value) (v : ℕ) (text : String) →
    Decides (permitted w v text) (IsPermitted w v text)
permitted_tells w v text = permits_tells w (length (bits text)) (signal text) v

are_permitted : {w : Wave Value} {v : ℕ} {texts : List String} →
    list_all (permitted w v) texts ≡ true → ArePermitted w v texts
are_permitted {w = w} {v = v} {texts = texts} h =
    record { each = (all_tells (permitted w v) (IsPermitted w v) (permitted_tells w v) texts).0 h }

none_is_permitted : {w : Wave Value} {v : ℕ} {texts : List String} →
    list_all (λ text. not (permitted w v text)) texts ≡ true → NoneIsPermitted w v texts
none_is_permitted {w = w} {v = v} {texts = texts} h = record {
  each = (all_tells (λ text. not (permitted w v text)) (λ text. ¬ (IsPermitted w v text))
      (λ text. Decides-not (permitted w v text) (permitted_tells w v text)) texts).0 h;
}

-- a pulse that rises in slot 1 and falls in slot 3 of four
abbrev pulse : ℕ → Wave Value
pulse skew = skewed (Zero ∷ R ∷ One ∷ F ∷ []) skew

-- On time; with a skew of 1 also one tick late, and the whole as late; with a skew of 3 also three
-- late.
on_time : ArePermitted (pulse 0) 1 ("0110011001100110" ∷ "01" ∷ "1" ∷ "0" ∷ "" ∷ [])
unfolding back earlier
on_time = are_permitted refl

late : ArePermitted (pulse 1) 1 ("0110011001100110" ∷ "0011001100110011" ∷ [])
unfolding back earlier
late = are_permitted refl

latest : ArePermitted (pulse 3) 1 ("1001100110011001" ∷ "1100110011001100" ∷ [])
unfolding back earlier
latest = are_permitted refl

-- one tick early, one past the skew, and pulses of which one is late and one is not
not_late : NoneIsPermitted (pulse 0) 1 ("0011001100110011" ∷ "1100110011001100" ∷ [])
unfolding back earlier
not_late = none_is_permitted refl

past_the_skew : NoneIsPermitted (pulse 1) 1 ("1001100110011001" ∷ "1100110011001100" ∷ [])
unfolding back earlier
past_the_skew = none_is_permitted refl

past_two : NoneIsPermitted (pulse 2) 1 ("1100110011001100" ∷ [])
unfolding back earlier
past_two = none_is_permitted refl

one_offset_for_all : NoneIsPermitted (pulse 1) 1 ("01100011" ∷ "00110110" ∷
    "01100110011001100011" ∷ [])
unfolding back earlier
one_offset_for_all = none_is_permitted refl

-- The pulses are late from the second on, which the first does not matter to from its fall on.
-- Nothing is asked of tick 0.
from_the_second : ArePermitted (pulse 1) 4 ("01100011" ∷ "10100011" ∷ [])
unfolding back earlier
from_the_second = are_permitted refl

from_the_first_fall : NoneIsPermitted (pulse 1) 3 ("01100011" ∷ [])
unfolding back earlier
from_the_first_fall = none_is_permitted refl

nothing_at_the_start : ArePermitted (skewed (Zero ∷ One ∷ One ∷ One ∷ []) 0) 0 ("1111" ∷ [])
unfolding back earlier
nothing_at_the_start = are_permitted refl

-- the first step, and the last one
first_step : NoneIsPermitted (skewed (C ∷ S ∷ C ∷ C ∷ []) 0) 1 ("01" ∷ "0111" ∷ [])
unfolding back earlier
first_step = none_is_permitted refl

last_step : NoneIsPermitted (skewed (C ∷ C ∷ C ∷ S ∷ []) 0) 1 ("0001" ∷ "00010" ∷ [])
unfolding back earlier
last_step = none_is_permitted refl

before_the_last : ArePermitted (skewed (C ∷ C ∷ C ∷ S ∷ []) 0) 1 ("001" ∷ "010" ∷ [])
unfolding back earlier
before_the_last = are_permitted refl

-- ---- several pins, and what is asked of an element

-- each pin has an offset of its own, and there are as many waves as signals
two_pins : AllPermit values (pulse 1 ∷ pulse 1 ∷ []) 8
    (signal "01100110" ∷ signal "00110011" ∷ []) 1
unfolding back earlier
two_pins = (
  (permits_tells (pulse 1) 8 (signal "01100110") 1).0 refl,
  ((permits_tells (pulse 1) 8 (signal "00110011") 1).0 refl, tt),
)

one_pin_too_many : ¬ (AllPermit values (pulse 1 ∷ []) 8
    (signal "01100110" ∷ signal "01100110" ∷ []) 1)
one_pin_too_many h = h.1

one_pin_too_few : ¬ (AllPermit values (pulse 1 ∷ pulse 1 ∷ []) 8 (signal "01100110" ∷ []) 1)
one_pin_too_few h = h.1

-- A wave that is sound permits an output that is longer than the pins by the least delay, and whose
-- equation holds from the greatest delay on, from the next tick on.
sound_at_both_ends : (kind : Kind) (d : Bounds) (waves : List (Wave Value)) (wave : Wave Value) →
    IsSound kind d waves wave →
    (n v delay : ℕ) (signals : List Signal) (output : Signal) →
    AllPermit values waves n signals v → 1 ≤ v → DelayFits kind d delay →
    ((t : ℕ) → v + d.max ≤ t → t < n + d.min → Equation kind d delay signals output t) →
    Permits values wave (n + d.min) output (v + d.max + 1)
sound_at_both_ends kind d waves wave sound n v delay signals output permit one fits obeys =
    sound n (n + d.min) v delay signals output permit one fits (omega arith) obeys

-- The same of a gate with two delays, here from 2 to 3 ticks for a rise and from 1 to 2 for a fall: the
-- output is longer by the least of all, and its equation holds from the greatest of all on.
abbrev rises_late : Split
rises_late = record { rise = record { min = 2; max = 3 }; fall = record { min = 1; max = 2 } }

abbrev falls_late : Split
falls_late = record { rise = record { min = 1; max = 2 }; fall = record { min = 2; max = 3 } }

record IsSoundFrom1To3 (s : Split) : Type 0 where
  at_both_ends : (kind : Kind) (waves : List (Wave Value)) (wave : Wave Value) →
      IsSplitSound kind s waves wave →
      (n v rise fall : ℕ) (signals : List Signal) (output : Signal) →
      AllPermit values waves n signals v → 1 ≤ v → Within s.rise rise → Within s.fall fall →
      ((t : ℕ) → v + 3 ≤ t → t < n + 1 → SplitEquation kind rise fall signals output t) →
      Permits values wave (n + 1) output (v + 3 + 1)

late_rise_at_both_ends : IsSoundFrom1To3 rises_late
late_rise_at_both_ends = record {
  at_both_ends = λ kind waves wave sound n v rise fall signals output permit one rises falls obeys.
      sound n (n + 1) v rise fall signals output permit one rises falls (omega arith) obeys;
}

late_fall_at_both_ends : IsSoundFrom1To3 falls_late
late_fall_at_both_ends = record {
  at_both_ends = λ kind waves wave sound n v rise fall signals output permit one rises falls obeys.
      sound n (n + 1) v rise fall signals output permit one rises falls (omega arith) obeys;
}

-- If a wave keeps what another permits, moved: a signal that is late by a delay within the
-- bounds is permitted from as much later on, to its last tick.
moved_to_both_ends : (w w' : Wave Value) (d : Bounds) → KeepsMoved values w w' d →
    (n v delay : ℕ) (x : Signal) → Permits values w n x v → d.min ≤ delay → delay ≤ d.max → 1 ≤ v →
    Permits values w' (n + delay) (λ t. x (t - delay)) (v + delay)
moved_to_both_ends w w' d keeps n v delay x permits least most one =
    keeps n (n + delay) v (v + delay) delay x (λ t. x (t - delay)) permits least most one
    (omega arith) (omega arith)
    (λ t early late. refl)
