-- UNCLOCKED: registers, latches and checkers of setup and hold whose clock or enable never does
-- anything.
use Rattle.std.specs.Prelude.{◌≡◌, ℕ, ◌<◌, Bool, true, false, not, ◌&&◌, List, [], ◌∷◌, length, codes, slice_get, if◌then◌else◌, Option, Some, None}
use Rattle.std.specs.List.{flat_map, list_any, range_with_len}
use Rattle.step_values.specs.declared.value.Value.{Value}
use Rattle.step_values.specs.Cell.{values}
use Rattle.step_values.specs.Steps.{has}
use Rattle.skew_algebra.specs.Wave.{folded}
use Rattle.element_kinds.specs.declared.form.Form.{Form}
use Rattle.element_kinds.specs.declared.form.Form.TheVariants.{Gate, Change, Register, Latch as Enabled, Checker}
use Rattle.element_kinds.specs.Kinds.{by_form}
use Rattle.flat_circuit.specs.declared.instance.Pin.{Pin}
use Rattle.flat_circuit.specs.declared.instance.Instance.{Instance}
use Rattle.flat_circuit.specs.Circuit.{Circuit}
use Rattle.fixpoint_engine.specs.Waves.{Waves, pin_wave}
use Rattle.fixpoint_engine.specs.Settled.{marked_in}
use Rattle.timing_analysis.specs.Case.{Case}
use Rattle.listing.specs.Text.{line}
use Rattle.listing.specs.Names.{instance_text}
use Rattle.drawing_notes.specs.Pins.{has_clock, clock_of, target_text}

-- What a clock has to permit so that anything is done: an enable 1, any other clock a rise.
abbrev pub is_active : Form → Value → Bool
is_active Gate v = false
is_active Change v = false
is_active (Register forced) v = has v false true
is_active (Enabled forced) v = has v true true
is_active (Checker check) v = has v false true

-- in some slot of the fold of what the pin shows
abbrev pub acts_at : Circuit → Waves → Form → Pin → Bool
acts_at c ws form p = list_any (is_active form) (folded values (pin_wave c ws p))

abbrev pub acts_by : Circuit → Waves → Instance → Option Pin → Bool
acts_by c ws j None = false
acts_by c ws j (Some p) = by_form (λ form. acts_at c ws form p) j.kind

-- in these waves the clock or the enable does something
abbrev pub acts_in : Circuit → Waves → Option Instance → Bool
acts_in c ws None = false
acts_in c ws (Some j) = has_clock j.kind && acts_by c ws j (clock_of j)

-- in some case
abbrev pub acts : Circuit → List Case → Option Instance → Bool
acts c cases j = list_any (λ (case : Case). acts_in c case.waves j) cases

unfoldable pub unclocked_line : Circuit → ℕ → Pin → List ℕ
unclocked_line c k p = line (
    codes "NOTE UNCLOCKED " ∷ instance_text c k ∷ codes " PIN 0 " ∷ target_text c p.target ∷ [])

abbrev pub unclocked_by : Circuit → ℕ → Option Pin → List (List ℕ)
unclocked_by c k None = []
unclocked_by c k (Some p) = unclocked_line c k p ∷ []

abbrev pub unclocked_of : Circuit → ℕ → Bool → Option Instance → List (List ℕ)
unclocked_of c k acts None = []
unclocked_of c k acts (Some j) =
    if has_clock j.kind && not acts then unclocked_by c k (clock_of j) else []

abbrev pub unclocked_at : Circuit → List Case → ℕ → List (List ℕ)
unclocked_at c cases k =
    unclocked_of c k (acts c cases (slice_get c.instances k)) (slice_get c.instances k)

-- in the order of expansion
abbrev pub unclocked : Circuit → List Case → List (List ℕ)
unclocked c cases = flat_map (unclocked_at c cases) (range_with_len 0 (length c.instances))

-- the marks of instances, by their numbers, say whether their clocks do something in some of these
-- cases
abbrev pub AreActs : Circuit → List Case → List Bool → Type 0
AreActs c cases marks = (k : ℕ) → k < length c.instances →
    marked_in marks k ≡ acts c cases (slice_get c.instances k)
