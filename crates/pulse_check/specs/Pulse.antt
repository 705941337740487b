-- Pulses that may be narrow, read off a wave as it is. All slots of a wave are late together, so a
-- pulse keeps its width however late it comes, and no fold is taken.
use Rattle.std.specs.Prelude.{ℕ, zero, suc, ◌+◌, ◌-◌, Bool, true, not, ◌&&◌, Option, Some, None, if◌then◌else◌}
use Rattle.std.specs.Option.{option_map}
use Rattle.step_values.specs.declared.value.Value.{Value}
use Rattle.step_values.specs.Steps.{has}
use Rattle.gate_eval.specs.Hold.{first_some}

-- a wave's values, slot by slot, read round the period
abbrev pub Slots : Type 0
Slots = ℕ → Value

-- in a slot of this value a pulse at the level may begin, end, or go on
abbrev pub may_begin : Bool → Value → Bool
may_begin level v = has v (not level) level

abbrev pub may_end : Bool → Value → Bool
may_end level v = has v level (not level)

abbrev pub may_last : Bool → Value → Bool
may_last level v = has v level level

-- it may go on in each of n slots, from this one on
abbrev pub lasts_for : Bool → Slots → ℕ → ℕ → Bool
lasts_for level wave slot zero = true
lasts_for level wave slot (suc n) = may_last level (wave slot) && lasts_for level wave (slot + 1) n

-- a pulse that begins in slot a may end in slot a + width, and goes on in each slot between
abbrev pub may_be_wide : Bool → Slots → ℕ → ℕ → Bool
may_be_wide level wave a width =
    may_end level (wave (a + width)) && lasts_for level wave (a + 1) (width - 1)

-- the least width below the limit that a pulse may have that begins in slot a
abbrev pub least_width : Bool → Slots → ℕ → ℕ → Option ℕ
least_width level wave limit a =
    first_some (λ width. if may_be_wide level wave a width then Some width else None) (limit - 1) 1

-- the first slot in which a pulse may begin that is narrower than the limit, and the least width of
-- such a pulse
abbrev pub narrow_at : Bool → Slots → ℕ → ℕ → Option (ℕ × ℕ)
narrow_at level wave limit a =
    if may_begin level (wave a)
    then option_map (λ width. (a, width)) (least_width level wave limit a) else None

abbrev pub first_narrow : ℕ → Bool → Slots → ℕ → Option (ℕ × ℕ)
first_narrow period level wave limit = first_some (narrow_at level wave limit) period 0
