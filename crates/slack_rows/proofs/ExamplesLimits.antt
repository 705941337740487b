-- The order of the table, what is left of pulses, spans whose input may change in every slot,
-- clocks that assert, and several cases, worked out on paper.
use Rattle.std.specs.Prelude.{◌≡◌, ℕ, true, false, [], ◌∷◌, pos, negsuc, Some, None}
use Rattle.std.proofs.Common.{refl}
use Rattle.scald_base.specs.Clock.{back}
use Rattle.scald_base.specs.declared.assertion.AssertSpec.TheVariants.{Stable}
use Rattle.wave_core.specs.Slots.{earlier}
use Rattle.skew_algebra.specs.Wave.{normal, moved}
use Rattle.gate_eval.specs.Hold.{hazard}
use Rattle.gate_eval.specs.Meeting.{meeting}
use Rattle.element_kinds.specs.declared.kind.Kind.TheVariants.{And, Buf, Chg, Reg, RiseFall, SetupHold}
use Rattle.flat_circuit.specs.declared.net.Net.{Net}
use Rattle.flat_circuit.specs.declared.split.Split.{Split}
use Rattle.flat_circuit.specs.Circuit.{Circuit}
use Rattle.fixpoint_engine.specs.Waves.{Waves, waves_of}
use Rattle.critical_paths.specs.declared.direction.Direction.TheVariants.{Rise, Fall}
use Rattle.critical_paths.specs.Cause.{made1, made2, made3, made4}
use Rattle.critical_paths.specs.Walk.{path_of_stop}
use Rattle.critical_paths.specs.Arrival.{arrivals}
use Rattle.critical_paths.proofs.Circuits.{bounds, checker, circuit, clock, driven, element, input, late_wave, marked_pin, of_two_delays, pin, wave}
use Rattle.slack_rows.specs.Launched.{opening}
use Rattle.slack_rows.specs.Limit.{Case, least_finding, finding_in, worst}
use Rattle.slack_rows.specs.Pulse.{latest_begin, left_at, left_if, left_of, width_of}
use Rattle.slack_rows.specs.Rows.{first_with, free_count}
use Rattle.slack_rows.specs.Slack.{Ticks, Way, NoNumber, is_above}
use Rattle.slack_rows.specs.declared.parameter.Word.TheVariants.{Setup, Hold, From as StableFrom, To as StableTo}
use Rattle.slack_rows.specs.declared.parameter.Subject.TheVariants.{Instance as OfInstance, Net as OfNet}

-- ---- the order of the table

no_number_above : is_above NoNumber (Ticks (negsuc 9)) ≡ true
no_number_above = refl

lower_above : is_above (Ticks (negsuc 9)) (Way (negsuc 8)) ≡ true
lower_above = refl

-- A way's number counts as any other, so of equal ones neither is above.
way_not_above : is_above (Way (negsuc 9)) (Ticks (negsuc 9)) ≡ false
way_not_above = refl

ticks_not_above : is_above (Ticks (negsuc 9)) (Way (negsuc 9)) ≡ false
ticks_not_above = refl

broken_above_met : is_above (Way (pos 39)) (Ticks (pos 5)) ≡ true
broken_above_met = refl

met_not_above : is_above (Ticks (pos 5)) (Way (pos 39)) ≡ false
met_not_above = refl

-- ---- what is left of a pulse: it rises 1 to 4 ticks late, and falls 2 to 7

abbrev delays : Split
delays = record { rise = bounds 1 4; fall = bounds 2 7 }

high_begins : latest_begin delays true ≡ 4
high_begins = refl

low_begins : latest_begin delays false ≡ 7
low_begins = refl

high_left : left_of delays true 5 ≡ pos 3
high_left = refl

low_left : left_of delays false 5 ≡ negsuc 0
low_left = refl

-- just nothing is left of a pulse of 2, and a tick of one of 3
just_nothing : left_if delays true (Some (0, 2)) ≡ Some (pos 0)
just_nothing = refl

a_tick : left_if delays true (Some (0, 3)) ≡ None
a_tick = refl

-- it may be none where it is to be wider than one slot
may_be_none : width_of (2, 1) 2 (Some (negsuc 0)) ≡ negsuc 0
may_be_none = refl

wide_enough : width_of (2, 1) 1 (Some (negsuc 0)) ≡ pos 1
wide_enough = refl

wider : width_of (2, 2) 3 (Some (negsuc 0)) ≡ pos 2
wider = refl

-- of a complement its output's low pulse: 2 ticks from a fall that comes 4 late to a rise 1 late
abbrev inverting : Circuit
inverting =
    circuit (input (clock 4 6 (0, 0)) ∷ driven 0 ∷ [])
    (record (of_two_delays Buf (bounds 1 1) (bounds 1 4) (pin 0 ∷ [])) { out_inverted = true } ∷ [])

of_a_complement : left_at inverting (waves_of (wave "1111F0R111111111" ∷ wave "0000000000000000" ∷ [])) true (pin 1)
    ≡ Some (negsuc 0)
unfolding meeting path_of_stop arrivals back earlier moved normal hazard made1 made2 made3 made4
of_a_complement = refl

-- ---- by which step a mark lets others through, by the level that closes it

closed_by_low : opening false ≡ Rise
closed_by_low = refl

closed_by_high : opening true ≡ Fall
closed_by_high = refl

-- ---- from the rise at 0 to the fall at 8: the data takes 3 to 20 ticks from the rise

abbrev spanned : Circuit
spanned =
    circuit (input (clock 0 8 (0, 0)) ∷ input (Stable []) ∷ driven 0 ∷ driven 1 ∷ [])
    (element Reg (bounds 1 2) (pin 0 ∷ pin 1 ∷ []) ∷ element Chg (bounds 2 18) (pin 2 ∷ []) ∷ checker RiseFall (1, 1) (pin 0 ∷ pin 3 ∷ []) ∷ [])

abbrev spanned_waves : Waves
spanned_waves =
    waves_of (wave "R1111111F0000000" ∷ wave "CCCCCCCCCCCCCCCC" ∷ late_wave "SCSSSSSSSSSSSSSS" 1 ∷ wave "CCCCCCCCCCCCCCCC" ∷ [])

-- 20 against 16 - 1, the next rise
spanned_setup : (finding_in spanned spanned_waves (OfInstance 2) Setup).slack ≡ Way (negsuc 4)
unfolding finding_in path_of_stop arrivals back earlier moved normal hazard made1 made2 made3 made4
spanned_setup = refl

-- 3 against 8 - 16 + 1 + 1, the last fall before the launch
spanned_hold : (finding_in spanned spanned_waves (OfInstance 2) Hold).slack ≡ Way (pos 9)
unfolding finding_in path_of_stop arrivals back earlier moved normal hazard made1 made2 made3 made4
spanned_hold = refl

-- ---- a driven clock: it is to rise from 3 to 5 and to fall from 5 to 7, and falls until 7

abbrev asserted : Net
asserted = record { name = []; bit = 0; spec = clock 4 6 (1, 1); wire = bounds 0 0; driver = Some 0 }

abbrev clocked : Circuit
clocked = circuit (input (Stable []) ∷ asserted ∷ []) (element Buf (bounds 0 0) (pin 0 ∷ []) ∷ [])

abbrev clocked_waves : Waves
clocked_waves = waves_of (wave "0000R11F00000000" ∷ wave "0000R11F00000000" ∷ [])

-- by the fall: 8 - 1 - 7
clock_from : (finding_in clocked clocked_waves (OfNet 1) StableFrom).slack ≡ Ticks (pos 0)
unfolding finding_in path_of_stop arrivals back earlier moved normal hazard made1 made2 made3 made4
clock_from = refl

-- by the rise: 20 - 18 - 1
clock_to : (finding_in clocked clocked_waves (OfNet 1) StableTo).slack ≡ Ticks (pos 1)
unfolding finding_in path_of_stop arrivals back earlier moved normal hazard made1 made2 made3 made4
clock_to = refl

-- ---- three cases: the data changes at 1 last in the first, and at 2 in the others

abbrev plain : Circuit
plain = circuit (input (clock 4 6 (0, 0)) ∷ input (Stable []) ∷ []) (checker SetupHold (1, 1) (pin 0 ∷ pin 1 ∷ []) ∷ [])

abbrev sooner : Case
sooner = record { number = 1; waves = waves_of (wave "0000R1F000000000" ∷ wave "CCSSSSSSCCCCCCCC" ∷ []) }

abbrev later : ℕ → Case
later number = record { number = number; waves = waves_of (wave "0000R1F000000000" ∷ wave "CCCSSSSSCCCCCCCC" ∷ []) }

least_of_three : (least_finding plain (sooner ∷ later 2 ∷ later 3 ∷ []) (OfInstance 0) Setup).slack ≡ Ticks (pos 1)
unfolding finding_in path_of_stop arrivals back earlier moved normal hazard made1 made2 made3 made4
least_of_three = refl

all_that_have_it : (worst plain (sooner ∷ later 2 ∷ later 3 ∷ []) (OfInstance 0) Setup).cases ≡ 2 ∷ 3 ∷ []
unfolding finding_in path_of_stop arrivals back earlier moved normal hazard made1 made2 made3 made4
all_that_have_it = refl

first_that_has_it : first_with plain (sooner ∷ later 2 ∷ later 3 ∷ []) (OfInstance 0) Setup ≡ 1
unfolding finding_in path_of_stop arrivals back earlier moved normal hazard made1 made2 made3 made4
first_that_has_it = refl

-- ---- what nothing can break

abbrev gate : Circuit
gate =
    circuit (input (clock 4 6 (0, 0)) ∷ input (Stable []) ∷ driven 0 ∷ []) (element And (bounds 1 1) (marked_pin 0 ∷ pin 1 ∷ []) ∷ [])

-- EN never changes: neither side of the mark can be broken
quiet_beside : free_count gate (record { number = 1; waves = waves_of (wave "0000R1F000000000" ∷ wave "SSSSSSSSSSSSSSSS" ∷ wave "00000R1F00000000" ∷ []) } ∷ []) ≡ 2
unfolding finding_in path_of_stop arrivals back earlier moved normal hazard made1 made2 made3 made4
quiet_beside = refl

-- a mark that is never at rest is broken, and its sides are no limits of their own
never_at_rest : free_count gate (record { number = 1; waves = waves_of (wave "CCCCCCCCCCCCCCCC" ∷ wave "CCCSSSSSCCCCCCCC" ∷ wave "CCCCCCCCCCCCCCCC" ∷ []) } ∷ []) ≡ 0
unfolding finding_in path_of_stop arrivals back earlier moved normal hazard made1 made2 made3 made4
never_at_rest = refl

-- A driven clock that stays at 1: its assertion does not permit the level, and so its sides are no
-- limits of their own. They are the limits of a net that is to be stable and never changes.
abbrev of_net : Net → Circuit
of_net net = record {
  header = clocked.header;
  nets = input (Stable []) ∷ net ∷ [];
  instances = clocked.instances;
  order = 0 ∷ 1 ∷ [];
}

stays_high : free_count (of_net asserted) (record { number = 1; waves = waves_of (wave "0000R11F00000000" ∷ wave "1111111111111111" ∷ []) } ∷ []) ≡ 0
unfolding finding_in path_of_stop arrivals back earlier moved normal hazard made1 made2 made3 made4
stays_high = refl

abbrev settled : Net
settled = record { name = []; bit = 0; spec = Stable (record { lo = 4; hi = 12 } ∷ []); wire = bounds 0 0; driver = Some 0 }

stays : free_count (of_net settled) (record { number = 1; waves = waves_of (wave "SSSSSSSSSSSSSSSS" ∷ wave "SSSSSSSSSSSSSSSS" ∷ []) } ∷ []) ≡ 2
unfolding finding_in path_of_stop arrivals back earlier moved normal hazard made1 made2 made3 made4
stays = refl
