-- Causes: which steps of an element's pins in a slot make a step of its output, its delay and its
-- complement not counted.
use Rattle.std.specs.Prelude.{ℕ, ◌==◌, Bool, true, false, not, ◌&&◌, ◌||◌, List, [], ◌∷◌, fold, length, map, slice_index_or, slice_set, if◌then◌else◌, Option, Some, None}
use Rattle.std.specs.Option.{option_map, option_or}
use Rattle.scald_base.specs.Time.{period}
use Rattle.step_values.specs.declared.value.Value.{Value}
use Rattle.step_values.specs.declared.value.Value.TheVariants.{S}
use Rattle.step_values.specs.Steps.{Steps, has}
use Rattle.step_values.specs.Cell.{values}
use Rattle.step_values.specs.Image.{some_bit, one_step, and_step, or_step, xor_step, mux2_step, reg_step, reg_rs_step, latch_step, latch_rs_step}
use Rattle.skew_algebra.specs.Wave.{fold as fold_of}
use Rattle.element_kinds.specs.declared.kind.Kind.{Kind}
use Rattle.element_kinds.specs.declared.kind.Kind.TheVariants.{Buf, And, Or, Xor, Mux2, Mux4, Mux8, Chg, Reg, RegRs, Latch, LatchRs, SetupHold, RiseFall, MinPulse}
use Rattle.element_kinds.specs.Kinds.{is_change, listens}
use Rattle.flat_circuit.specs.declared.instance.Instance.{Instance}
use Rattle.flat_circuit.specs.Circuit.{Circuit}
use Rattle.gate_eval.specs.Hold.{first_some, hazard}
use Rattle.gate_eval.specs.Instance.{wave_of_pin}
use Rattle.gate_eval.specs.Meeting.{folds_in}
use Rattle.storage_eval.specs.Storage.{listening}
use Rattle.fixpoint_engine.specs.Waves.{Waves, marked_pin, pin_waves}
use Rattle.critical_paths.specs.declared.direction.Corner.{Corner}
use Rattle.critical_paths.specs.declared.direction.Direction.{Direction}
use Rattle.critical_paths.specs.declared.direction.Direction.TheVariants.{Change}
use Rattle.critical_paths.specs.declared.path.Word.{Word}
use Rattle.critical_paths.specs.declared.path.Word.TheVariants.{Tight, Bounded, Loose}
use Rattle.critical_paths.specs.Event.{beside, direction_of, moves, steps_of}

-- ---- the steps of an output

-- some step of the set passes the test
abbrev pub some_in : Steps → Steps → Bool
some_in steps passes = some_bit (λ b. some_bit (λ b'. steps b b' && passes b b'))

abbrev pub no_steps : Steps
no_steps before after = false

-- what a rule makes of one step of each of these sets
unfoldable pub made1 : (Bool → Bool → Steps) → Steps → Steps
made1 rule s before after = some_in s (λ b b'. rule b b' before after)

unfoldable pub made2 : (Bool → Bool → Bool → Bool → Steps) → Steps → Steps → Steps
made2 rule s t before after = some_in s (λ b b'. made1 (rule b b') t before after)

unfoldable pub made3 : (Bool → Bool → Bool → Bool → Bool → Bool → Steps) → Steps → Steps → Steps →
    Steps
made3 rule s t u before after = some_in s (λ b b'. made2 (rule b b') t u before after)

unfoldable pub made4 : (Bool → Bool → Bool → Bool → Bool → Bool → Bool → Bool → Steps) → Steps →
    Steps → Steps → Steps → Steps
made4 rule s t u v before after = some_in s (λ b b'. made3 (rule b b') t u v before after)

-- two pins at a time, from the left
abbrev pub made_from_left : (Bool → Bool → Bool → Bool → Steps) → List Steps → Steps
made_from_left rule [] = no_steps
made_from_left rule (s ∷ sets) = fold (made2 rule) s sets

abbrev pub mux : Steps → Steps → Steps → Steps
mux = made3 mux2_step

abbrev pub mux_of_two : List Steps → Steps
mux_of_two (s ∷ a ∷ b ∷ []) = mux s a b
mux_of_two sets = no_steps

abbrev pub mux_of_four : List Steps → Steps
mux_of_four (s1 ∷ s0 ∷ a ∷ b ∷ c ∷ d ∷ []) = mux s1 (mux s0 a b) (mux s0 c d)
mux_of_four sets = no_steps

abbrev pub mux_of_eight : List Steps → Steps
mux_of_eight (s2 ∷ s1 ∷ s0 ∷ a ∷ b ∷ c ∷ d ∷ e ∷ f ∷ g ∷ h ∷ []) =
    mux s2 (mux s1 (mux s0 a b) (mux s0 c d)) (mux s1 (mux s0 e f) (mux s0 g h))
mux_of_eight sets = no_steps

abbrev pub of_clock : List Steps → Steps
of_clock (clock ∷ []) = made1 reg_step clock
of_clock sets = no_steps

abbrev pub of_forced_clock : List Steps → Steps
of_forced_clock (clock ∷ set ∷ reset ∷ []) = made3 reg_rs_step clock set reset
of_forced_clock sets = no_steps

abbrev pub of_enable : List Steps → Steps
of_enable (enable ∷ input ∷ []) = made2 latch_step enable input
of_enable sets = no_steps

abbrev pub of_forced_enable : List Steps → Steps
of_forced_enable (enable ∷ input ∷ set ∷ reset ∷ []) = made4 latch_rs_step enable input set reset
of_forced_enable sets = no_steps

-- What an element of each kind makes of a set for each of its listening pins. A change function may
-- change with any of them, which `causes` says, and a checker makes nothing.
abbrev pub output_steps : Kind → List Steps → Steps
output_steps Buf sets = slice_index_or sets 0 no_steps
output_steps And sets = made_from_left and_step sets
output_steps Or sets = made_from_left or_step sets
output_steps Xor sets = made_from_left xor_step sets
output_steps Mux2 sets = mux_of_two sets
output_steps Mux4 sets = mux_of_four sets
output_steps Mux8 sets = mux_of_eight sets
output_steps Chg sets = no_steps
output_steps Reg sets = of_clock sets
output_steps RegRs sets = of_forced_clock sets
output_steps Latch sets = of_enable sets
output_steps LatchRs sets = of_forced_enable sets
output_steps SetupHold sets = no_steps
output_steps RiseFall sets = no_steps
output_steps MinPulse sets = no_steps

-- ---- the pins in a slot

-- what each pin may do in a slot, however late it comes
abbrev pub pin_sets : Circuit → Waves → Instance → ℕ → List Steps
pin_sets c ws j p = map has (folds_in values (pin_waves c ws j) p)

abbrev pub pin_fold : Circuit → Waves → Instance → ℕ → ℕ → Value
pin_fold c ws j i p = fold_of values (wave_of_pin (pin_waves c ws j) i) p

-- The pin that is marked, if its rule holds: then it alone is listened to, and the others stay
-- as they are.
abbrev pub held_of : Option ℕ → Option (ℕ × ℕ) → Option ℕ
held_of (Some marked) None = Some marked
held_of marked found = None

abbrev pub held_pin : Circuit → Waves → Instance → Option ℕ
held_pin c ws j = held_of (marked_pin j) (hazard j.kind (pin_waves c ws j) (marked_pin j))

abbrev pub is_heard_by : Option ℕ → Kind → ℕ → Bool
is_heard_by None kind i = listens kind i
is_heard_by (Some marked) kind i = i == marked

-- the pin is listened to
abbrev pub is_heard : Circuit → Waves → Instance → ℕ → Bool
is_heard c ws j i = is_heard_by (held_pin c ws j) j.kind i

abbrev pub output_by : Option ℕ → Kind → List Steps → ℕ → Steps → Steps
output_by None kind sets i set = output_steps kind (listening kind (slice_set sets i set))
output_by (Some marked) kind sets i set = output_steps kind (set ∷ has S ∷ [])

-- the steps of the output if a pin makes one of these
abbrev pub output_with : Circuit → Waves → Instance → ℕ → ℕ → Steps → Steps
output_with c ws j p i set = output_by (held_pin c ws j) j.kind (pin_sets c ws j p) i set

-- ---- causes

-- a step of the pin in a slot makes a step of the output in this direction
abbrev pub causes : Circuit → Waves → Instance → Direction → ℕ → ℕ → Steps
causes c ws j d p i before after =
    is_heard c ws j i
    && (steps_of Change before after
    && (has (pin_fold c ws j i p) before after
    && (is_change j.kind || moves d (output_with c ws j p i (one_step before after)))))

-- The pin may make the step in this slot and not in the one beside it.
abbrev pub ends : Circuit → Waves → Instance → Corner → ℕ → ℕ → Steps
ends c ws j corner p i before after =
    is_heard c ws j i
    && (steps_of Change before after
    && (has (pin_fold c ws j i p) before after
    && not (has (pin_fold c ws j i (beside (period c.header) corner p)) before after)))

abbrev pub both : Steps → Steps → Steps
both some others before after = some before after && others before after

-- each change of the one is one of the other
abbrev pub are_among : Steps → Steps → Bool
are_among some more = (not (some false true) || more false true) &&
    (not (some true false) || more true false)

-- ---- the pin that an event comes through

-- a pin, the direction of its steps, and how surely they cause the event
pub record Cause : Type 0 where
  pub pin : ℕ
  pub direction : Direction
  pub word : Word

abbrev pub cause_at : ℕ → Word → Option Direction → Option Cause
cause_at i word found = option_map (λ direction. record
    { pin = i; direction = direction; word = word }) found

-- all steps of the pin that cause it end in this slot
abbrev pub tight_at : Circuit → Waves → Instance → Corner → Direction → ℕ → ℕ → Option Cause
tight_at c ws j corner d p i =
    if are_among (causes c ws j d p i) (ends c ws j corner p i) then cause_at i Tight
    (direction_of (causes c ws j d p i)) else None

-- some do
abbrev pub partly_tight_at : Circuit → Waves → Instance → Corner → Direction → ℕ → ℕ → Option Cause
partly_tight_at c ws j corner d p i = cause_at i Tight
    (direction_of (both (causes c ws j d p i) (ends c ws j corner p i)))

-- a step of the pin ends here and causes nothing, while another pin goes on
abbrev pub bounding_at : Circuit → Waves → Instance → Corner → ℕ → ℕ → ℕ → Option Cause
bounding_at c ws j corner p other i = cause_at i (Bounded other)
    (direction_of (ends c ws j corner p i))

-- steps of the pin cause it, and go on
abbrev pub loose_at : Circuit → Waves → Instance → Direction → ℕ → ℕ → Option Cause
loose_at c ws j d p i = cause_at i Loose (direction_of (causes c ws j d p i))

abbrev pub first_pin : Instance → (ℕ → Option Cause) → Option Cause
first_pin j cause = first_some cause (length j.pins) 0

abbrev pub if_loose : (ℕ → Option Cause) → Option Cause → Option Cause
if_loose bounding None = None
if_loose bounding (Some loose) = option_or (bounding loose.pin) (Some loose)

-- The first pin of which all causes end in this slot; else one of which some do; else, if a pin
-- causes the event, the first of which a step ends here, and else that pin.
abbrev pub cause_of : Circuit → Waves → Instance → Corner → Direction → ℕ → Option Cause
cause_of c ws j corner d p =
    option_or (first_pin j (tight_at c ws j corner d p))
    (option_or (first_pin j (partly_tight_at c ws j corner d p))
    (if_loose (λ other. first_pin j (bounding_at c ws j corner p other))
    (first_pin j (loose_at c ws j d p))))
