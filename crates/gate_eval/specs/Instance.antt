-- What a gate or change function makes of its pins' waves, its delay counted in.
use Rattle.std.specs.Prelude.{ℕ, ◌+◌, ◌<◌, ◌≤◌, Bool, ⊤, List, [], ◌∷◌, map, slice_index_or, Option, Some, None}
use Rattle.scald_base.specs.Time.{Bounds}
use Rattle.scald_base.specs.Signal.{Signal}
use Rattle.step_values.specs.declared.value.Value.{Value}
use Rattle.step_values.specs.declared.value.Value.TheVariants.{S}
use Rattle.step_values.specs.Cell.{values}
use Rattle.skew_algebra.specs.Wave.{Wave, skewed, moved, normal}
use Rattle.skew_algebra.specs.Permits.{Permits}
use Rattle.element_kinds.specs.declared.kind.Kind.{Kind}
use Rattle.element_kinds.specs.declared.form.Form.{Form}
use Rattle.element_kinds.specs.declared.form.Form.TheVariants.{Gate, Change, Register, Latch as Enabled, Checker}
use Rattle.element_kinds.specs.Kinds.{by_form, form_of, closes_of, is_memoryless, greatest_marks}
use Rattle.flat_circuit.specs.Kind.{pin_counts}
use Rattle.element_kinds.specs.Equation.{Equation}
use Rattle.flat_circuit.specs.Run.{DelayFits}
use Rattle.gate_eval.specs.Meeting.{meeting}
use Rattle.gate_eval.specs.Permitted.{AllPermit}
use Rattle.gate_eval.specs.Gates.{gate_value}
use Rattle.gate_eval.specs.Hold.{hazard}
use Rattle.gate_eval.specs.Change.{change_wave}

-- the kinds of this crate: gates and change functions
abbrev pub is_gate : Kind → Bool
is_gate kind = by_form is_memoryless kind

-- as many pins, and as many of them marked, as the kind has
pub record CountsFit (kind : Kind) (pins marked : ℕ) : Type 0 where
  pub least : (pin_counts kind).0 ≤ pins
  pub most : pins ≤ (pin_counts kind).1
  pub marks : marked ≤ greatest_marks kind

-- one of so many pins, if there is a bit that settles the output
abbrev pub MarkIsAt : Option Bool → ℕ → ℕ → Type 0
MarkIsAt None marked pins = ⊥
MarkIsAt (Some bit) marked pins = marked < pins

-- a pin is marked only of a kind that has such a bit, as an AND or OR
abbrev pub MarkFits : Kind → Option ℕ → ℕ → Type 0
MarkFits kind None pins = ⊤
MarkFits kind (Some marked) pins = MarkIsAt (closes_of kind) marked pins

abbrev pub wave_of_pin : List (Wave Value) → ℕ → Wave Value
wave_of_pin waves pin = slice_index_or waves pin (skewed [] 0)

-- What passes while the other pins stay as they are: the image of the marked wave and S, with its
-- skew.
abbrev pub held_wave : (List Value → Value) → Wave Value → Wave Value
held_wave image w = skewed (map (λ v. image (v ∷ S ∷ [])) w.cells) w.skew

-- If a pin is marked and nothing disturbs it, what passes of its wave; else what the waves make
-- where they meet.
abbrev pub image_by : (List Value → Value) → List (Wave Value) → Option ℕ → Option (ℕ × ℕ) →
    Wave Value
image_by image waves (Some marked) None = held_wave image (wave_of_pin waves marked)
image_by image waves marked hazard = meeting values image waves

abbrev pub gate_image : Kind → List (Wave Value) → Option ℕ → Wave Value
gate_image kind waves marked = image_by (gate_value kind) waves marked (hazard kind waves marked)

-- by the form of a kind
abbrev pub wave_by : Form → Kind → List (Wave Value) → Option ℕ → Bounds → Wave Value
wave_by Gate kind waves marked d = moved values (gate_image kind waves marked) d
wave_by Change kind waves marked d = normal values (change_wave waves d)
wave_by (Register forced) kind waves marked d = moved values (gate_image kind waves marked) d
wave_by (Enabled forced) kind waves marked d = moved values (gate_image kind waves marked) d
wave_by (Checker check) kind waves marked d = moved values (gate_image kind waves marked) d

-- the wave of the output, before its complement; `marked` is the pin that is marked
unfoldable pub gate_wave : Kind → List (Wave Value) → Option ℕ → Bounds → Wave Value
gate_wave kind waves marked d = wave_by (form_of kind) kind waves marked d

-- The pins' signals are n bits long, and their waves permit them from tick v on. Then the wave
-- permits each output that obeys the equation of its kind at its ticks from v + d.max on, from the
-- next tick on, with one offset for all of it.
abbrev pub IsSound : Kind → Bounds → List (Wave Value) → Wave Value → Type 0
IsSound kind d waves wave =
    (n m v delay : ℕ) (signals : List Signal) (output : Signal) →
    AllPermit values waves n signals v → 1 ≤ v → DelayFits kind d delay → m ≤ n + d.min →
    ((t : ℕ) → v + d.max ≤ t → t < m → Equation kind d delay signals output t) →
    Permits values wave m output (v + d.max + 1)
