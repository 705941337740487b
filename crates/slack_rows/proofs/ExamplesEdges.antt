-- Spans of a clock, checkers without a window, ways to several edges and pulses that may come again,
-- worked out on paper.
use Rattle.std.specs.Prelude.{◌≡◌, ℕ, ◌+◌, ◌-◌, true, false, [], ◌∷◌, pos, negsuc, Some, None}
use Rattle.std.proofs.Common.{arith, refl}
use Rattle.scald_base.specs.Clock.{back}
use Rattle.scald_base.specs.declared.assertion.AssertSpec.TheVariants.{Stable}
use Rattle.step_values.specs.Cell.{values}
use Rattle.wave_core.specs.Slots.{earlier}
use Rattle.skew_algebra.specs.Wave.{fold, normal, moved}
use Rattle.gate_eval.specs.Hold.{hazard}
use Rattle.element_kinds.specs.declared.kind.Kind.TheVariants.{SetupHold}
use Rattle.flat_circuit.specs.Circuit.{Circuit}
use Rattle.fixpoint_engine.specs.Pins.{read}
use Rattle.fixpoint_engine.specs.Waves.{Waves, waves_of}
use Rattle.critical_paths.specs.Cause.{made1, made2, made3, made4}
use Rattle.critical_paths.specs.Walk.{path_of_stop}
use Rattle.critical_paths.specs.Arrival.{Arrival, arrivals}
use Rattle.critical_paths.proofs.Circuits.{checker, circuit, clock, input, pin, wave}
use Rattle.slack_rows.specs.Slack.{Ticks, no_launches, finding_after, finding_before}
use Rattle.slack_rows.specs.declared.parameter.Word.TheVariants.{Setup, Hold}
use Rattle.slack_rows.specs.declared.parameter.Subject.TheVariants.{Instance as OfInstance}
use Rattle.slack_rows.specs.Limit.{finding_in}
use Rattle.slack_rows.specs.Pulse.{may_change_again}
use Rattle.slack_rows.specs.Watch.{span_watch, spans}
use Rattle.slack_rows.specs.Window.{extent_of}
use Rattle.slack_rows.specs.Way.{Guard, least_after, least_before}
use Rattle.slack_rows.specs.declared.guard.Guard as guarding
use Rattle.slack_rows.specs.declared.window.Window.{Window as Opened}
use Rattle.slack_rows.specs.Views.{window_about}
use Rattle.slack_rows.specs.Arrived.{edge_for, furthest_in, is_nearer, moved as moved_to, moved_by, moved_into}
use Rattle.critical_paths.specs.declared.arrival.Arrival.{Arrival as Arrived}
use Rattle.critical_paths.specs.declared.direction.Corner.TheVariants.{Late as LateCorner, Early as EarlyCorner}
use Rattle.critical_paths.specs.declared.region.Region.{Region as Ticked}

-- ---- from the rise at 2 or 3 to the last fall at 7

one_span : spans 16 (fold values (wave "00RR11FF00000000")) ≡ record { first = 2; last = 7 } ∷ []
unfolding earlier back
one_span = refl

-- the input is quiet from 1 to 8
span_before : (finding_before 16 no_launches (span_watch 16 (extent_of 1 1) (fold values (wave "00RR11FF00000000")) (fold values (wave "CSSSSSSSSCCCCCCC")))).slack
    ≡ Ticks (pos 1)
unfolding earlier back
span_before = refl

span_after : (finding_after 16 no_launches (span_watch 16 (extent_of 1 1) (fold values (wave "00RR11FF00000000")) (fold values (wave "CSSSSSSSSCCCCCCC")))).slack
    ≡ Ticks (pos 0)
unfolding earlier back
span_after = refl

-- ---- no window: quiet in 3 and 4, up to the rise at 4, and in 5 to 7 after it

abbrev windowless : Circuit
windowless = circuit (input (clock 4 6 (0, 0)) ∷ input (Stable []) ∷ []) (checker SetupHold (0, 0) (pin 0 ∷ pin 1 ∷ []) ∷ [])

abbrev quiet_about : Waves
quiet_about = waves_of (wave "0000R1F000000000" ∷ wave "CCCSSSSSCCCCCCCC" ∷ [])

quiet_up_to : (finding_in windowless quiet_about (OfInstance 0) Setup).slack ≡ Ticks (pos 2)
unfolding finding_in path_of_stop arrivals back earlier moved normal hazard made1 made2 made3 made4
quiet_up_to = refl

quiet_from : (finding_in windowless quiet_about (OfInstance 0) Hold).slack ≡ Ticks (pos 3)
unfolding finding_in path_of_stop arrivals back earlier moved normal hazard made1 made2 made3 made4
quiet_from = refl

-- ---- a way of 16 ticks from the edge at 4, by edges at 0 and 8

abbrev guard_at : ℕ → Guard
guard_at tick = record { window = record { edge_first = tick; edge_last = tick; opens = tick - 1; closes = tick + 1 }; edge = pos tick }

abbrev arrival : Arrival
arrival = record { source = 0; edge = pos 4; tick = 20 }

-- it is to be there by 8 - 1
before_the_next : least_before 16 (arrival ∷ []) (guard_at 48 ∷ guard_at 56 ∷ []) ≡ Some (negsuc 12)
before_the_next = refl

-- and not before 0 + 2
after_the_last : least_after 16 (arrival ∷ []) (guard_at 48 ∷ guard_at 56 ∷ []) ≡ Some (pos 18)
after_the_last = refl

-- ---- which edge a launch is for, of one at 1 in a period of 16

next_edge : edge_for LateCorner 16 (pos 3) (pos 1) ≡ pos 17
next_edge = refl

-- not its own
after_own : edge_for LateCorner 16 (pos 1) (pos 1) ≡ pos 17
after_own = refl

last_edge : edge_for EarlyCorner 16 (pos 3) (pos 1) ≡ pos 1
last_edge = refl

own_edge : edge_for EarlyCorner 16 (pos 1) (pos 1) ≡ pos 1
own_edge = refl

before_first : edge_for EarlyCorner 16 (pos 0) (pos 1) ≡ negsuc 14
before_first = refl

moved_back : moved_by EarlyCorner 16 (pos 0) (pos 1) ≡ negsuc 15
moved_back = refl

-- ---- which of two edges at 9 and at 1 is nearer, and of one clock

abbrev near_rise : ℕ → Opened
near_rise tick = window_about (record { first = pos tick; last = pos tick }) (extent_of 1 1)

abbrev at_1 : ℕ → guarding.Guard
at_1 net = record {
  window = near_rise 1;
  net = net;
  ideal = pos 1;
  near = (omega arith, omega arith, omega arith);
}

abbrev at_9 : ℕ → guarding.Guard
at_9 net = record {
  window = near_rise 9;
  net = net;
  ideal = pos 9;
  near = (omega arith, omega arith, omega arith);
}

nearer : is_nearer EarlyCorner 16 (pos 12) (at_1 3) (at_9 3) ≡ true
nearer = refl

farther : is_nearer EarlyCorner 16 (pos 12) (at_9 3) (at_1 3) ≡ false
farther = refl

of_another_clock : is_nearer EarlyCorner 16 (pos 12) (at_1 3) (at_9 4) ≡ false
of_another_clock = refl

as_near : is_nearer EarlyCorner 16 (pos 12) (at_9 3) (at_9 3) ≡ false
as_near = refl

next_is_nearer : is_nearer LateCorner 16 (pos 12) (at_9 3) (at_1 3) ≡ true
next_is_nearer = refl

-- ---- an arrival at 3 of an edge at 1, in a region three periods later

abbrev known : Arrived
known = record { ideal = pos 1; tick = pos 3; node = 0 }

abbrev later_region : ℕ → ℕ → Ticked
later_region first last = record { first = pos first; last = pos last }

-- launched at 49
before_50 : moved_into 16 (later_region 50 60) LateCorner (pos 50) known ≡ Some (moved_to known (pos 51))
before_50 = refl

not_after_50 : moved_into 16 (later_region 50 60) EarlyCorner (pos 50) known ≡ None
not_after_50 = refl

by_49 : moved_into 16 (later_region 50 60) EarlyCorner (pos 49) known ≡ Some (moved_to known (pos 51))
by_49 = refl

not_there : moved_into 16 (later_region 52 60) LateCorner (pos 50) known ≡ None
not_there = refl

at_its_end : moved_into 16 (later_region 52 67) LateCorner (pos 100) known ≡ Some (moved_to known (pos 67))
at_its_end = refl

-- ---- pulses

comes_again : may_change_again (read (wave "00CC000000000000").cells) (2, 1) ≡ true
unfolding earlier back
comes_again = refl

-- it ends by what comes again
ends_there : may_change_again (read (wave "0R1CC00000000000").cells) (1, 2) ≡ false
unfolding earlier back
ends_there = refl

comes_once : may_change_again (read (wave "00C0000000000000").cells) (2, 1) ≡ false
unfolding earlier back
comes_once = refl

-- ---- of two arrivals at a net, at 3 and at 9, those that count at a pin

abbrev other : Arrived
other = record { ideal = pos 1; tick = pos 9; node = 1 }

last_of_both : furthest_in 16 0 (later_region 50 60) LateCorner (pos 60) (known ∷ other ∷ [])
    ≡ Some (moved_to other (pos 57))
last_of_both = refl

-- a wire of 2 ticks counts
first_of_both : furthest_in 16 2 (later_region 50 60) EarlyCorner (pos 40) (known ∷ other ∷ [])
    ≡ Some (moved_to known (pos 53))
first_of_both = refl

none_before_the_edge : furthest_in 16 0 (later_region 50 60) LateCorner (pos 40) (known ∷ other ∷ []) ≡ None
none_before_the_edge = refl
