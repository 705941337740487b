-- Slack of widths: how narrow a pulse may be, read off the wave as it is.
use Rattle.std.specs.Prelude.{ℕ, ◌+◌, ◌==◌, nat_lt, Bool, true, false, not, ◌&&◌, List, [], ◌∷◌, filter_map, ℤ, pos, ◌+ℤ◌, ◌-ℤ◌, int_le, if◌then◌else◌, Option, Some, None}
use Rattle.std.specs.List.{list_any, range_with_len}
use Rattle.std.specs.Option.{option_map}
use Rattle.scald_base.specs.Time.{period}
use Rattle.vector_names.specs.declared.bits.Target.{Target}
use Rattle.vector_names.specs.declared.bits.Target.TheVariants.{Net as OnNet, Constant}
use Rattle.step_values.specs.Steps.{has, is_quiet}
use Rattle.flat_circuit.specs.declared.instance.Pin.{Pin}
use Rattle.flat_circuit.specs.declared.instance.Instance.{Instance}
use Rattle.flat_circuit.specs.declared.split.Split.{Split}
use Rattle.flat_circuit.specs.Circuit.{Circuit, driver, wire_at}
use Rattle.flat_circuit.specs.Split.{two_delays}
use Rattle.gate_eval.specs.Instance.{gate_image}
use Rattle.scald_base.specs.Signal.{turned}
use Rattle.fixpoint_engine.specs.Pins.{read}
use Rattle.fixpoint_engine.specs.Waves.{Waves, marked_pin, pin_waves}
use Rattle.pulse_check.specs.Pulse.{Slots, narrow_at}
use Rattle.slack_rows.specs.Slack.{Free, Ticks, Finding, InPulse, finding_alone, finding_at}

-- a pulse, by its first slot and its width
abbrev pub Pulse : Type 0
Pulse = ℕ × ℕ

-- the first of the narrowest
abbrev pub narrower : Pulse → Option Pulse → Option Pulse
narrower pulse None = Some pulse
narrower pulse (Some other) = if nat_lt other.1 pulse.1 then Some other else Some pulse

abbrev pub narrowest_of : List Pulse → Option Pulse
narrowest_of [] = None
narrowest_of (pulse ∷ pulses) = narrower pulse (narrowest_of pulses)

-- the narrowest pulse of the level that is narrower than a period
abbrev pub narrowest : ℕ → Bool → Slots → Option Pulse
narrowest p level wave = narrowest_of (filter_map (narrow_at level wave p) (range_with_len 0 p))

-- ---- pulses that two delays may swallow

-- what is left of a pulse of this width: it begins the one delay late, and ends the other
abbrev pub left_of : Split → Bool → ℕ → ℤ
left_of s true width = pos (width + s.fall.min) -ℤ pos s.rise.max
left_of s false width = pos (width + s.rise.min) -ℤ pos s.fall.max

-- how late it may begin
abbrev pub latest_begin : Split → Bool → ℕ
latest_begin s true = s.rise.max
latest_begin s false = s.fall.max

abbrev pub left_if : Split → Bool → Option Pulse → Option ℤ
left_if s level None = None
left_if s level (Some pulse) =
    if int_le (left_of s level pulse.1) (pos 0) then Some (left_of s level pulse.1) else None

-- if a driver has two delays and makes a pulse of its own output so narrow that nothing is left
-- of it, what is
abbrev pub left_by : Circuit → Waves → Instance → Bool → Option Split → Option ℤ
left_by c ws j level None = None
left_by c ws j level (Some s) =
    left_if s level (narrowest (period c.header) level
    (read (gate_image j.kind (pin_waves c ws j) (marked_pin j)).cells))

abbrev pub left_in : Circuit → Waves → Bool → Option Instance → Option ℤ
left_in c ws level None = None
left_in c ws level (Some j) = left_by c ws j (turned j.out_inverted level)
    (two_delays j.kind j.split)

abbrev pub left_on : Circuit → Waves → Bool → Target → Option ℤ
left_on c ws level (OnNet i) = left_in c ws level (driver c i)
left_on c ws level (Constant b) = None

abbrev pub left_at : Circuit → Waves → Bool → Pin → Option ℤ
left_at c ws level pin = left_on c ws (turned pin.inverted level) pin.target

-- when such a pulse begins at its driver's output: as late as it may
abbrev pub begins_if : Split → Bool → Option Pulse → Option ℤ
begins_if s level None = None
begins_if s level (Some pulse) =
    if int_le (left_of s level pulse.1) (pos 0) then Some (pos (pulse.0 + latest_begin s level))
    else None

abbrev pub begins_by : Circuit → Waves → Instance → Bool → Option Split → Option ℤ
begins_by c ws j level None = None
begins_by c ws j level (Some s) =
    begins_if s level (narrowest (period c.header) level
    (read (gate_image j.kind (pin_waves c ws j) (marked_pin j)).cells))

abbrev pub begins_in : Circuit → Waves → Bool → Option Instance → Option ℤ
begins_in c ws level None = None
begins_in c ws level (Some j) = begins_by c ws j (turned j.out_inverted level)
    (two_delays j.kind j.split)

-- at a pin, by the least of its wire
abbrev pub begins_on : Circuit → Waves → Bool → Target → Option ℤ
begins_on c ws level (OnNet i) =
    option_map (λ begin. begin +ℤ pos (wire_at c.nets i).min) (begins_in c ws level (driver c i))
begins_on c ws level (Constant b) = None

abbrev pub begins_at : Circuit → Waves → Bool → Pin → Option ℤ
begins_at c ws level pin = begins_on c ws (turned pin.inverted level) pin.target

-- ---- pulses that may change more than once

-- In some slot of the pulse it may step either way, and it may go on changing in the next.
abbrev pub may_change_again : Slots → Pulse → Bool
may_change_again wave pulse =
    list_any (λ t. has (wave t) false true
    && (has (wave t) true false && not (is_quiet (wave (t + 1)))))
    (range_with_len pulse.0 pulse.1)

abbrev pub changes_again : Slots → Option Pulse → Bool
changes_again wave None = false
changes_again wave (Some pulse) = may_change_again wave pulse

-- The number of such a pulse is its width, whatever two delays leave of it.
abbrev pub left_once : Bool → Option ℤ → Option ℤ
left_once true left = None
left_once false left = left

-- ---- the slack

-- A pulse of one slot that is to be wider may be none at all.
abbrev pub width_of : Pulse → ℕ → Option ℤ → ℤ
width_of pulse limit None = pos pulse.1
width_of pulse limit (Some left) = if (pulse.1 == 1) && nat_lt 1 limit then left else pos pulse.1

abbrev pub finding_pulse : ℕ → Option ℤ → Option Pulse → Finding
finding_pulse limit left None = finding_alone Free
finding_pulse limit left (Some pulse) =
    finding_at (Ticks (width_of pulse limit left -ℤ pos limit)) (InPulse pulse.0 pulse.1)

-- that of the narrowest pulse of a wave
abbrev pub finding_wave : ℕ → Option ℤ → Slots → Option Pulse → Finding
finding_wave limit left wave pulse = finding_pulse limit (left_once (changes_again wave pulse) left) pulse
