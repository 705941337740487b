-- Which edges guard windows, slacks by what is known of arrivals, and when pulses begin, worked out
-- on paper over a period of sixteen ticks.
use Rattle.std.specs.Prelude.{◌≡◌, ℕ, ◌+◌, ◌^◌, true, false, List, [], ◌∷◌, pos, negsuc, Option, Some, None}
use Rattle.std.specs.Option.{option_map}
use Rattle.std.proofs.Common.{arith, refl}
use Rattle.scald_base.specs.Clock.{back}
use Rattle.scald_base.specs.declared.assertion.AssertSpec.TheVariants.{Stable}
use Rattle.wave_core.specs.Slots.{earlier}
use Rattle.skew_algebra.specs.Wave.{normal, moved}
use Rattle.gate_eval.specs.Hold.{hazard}
use Rattle.gate_eval.specs.Meeting.{meeting}
use Rattle.element_kinds.specs.declared.kind.Kind.TheVariants.{Buf}
use Rattle.flat_circuit.specs.declared.net.Net.{Net}
use Rattle.flat_circuit.specs.Circuit.{Circuit}
use Rattle.fixpoint_engine.specs.Waves.{Waves, waves_of}
use Rattle.critical_paths.specs.declared.arrival.Known.{Known}
use Rattle.critical_paths.specs.declared.arrival.Known.TheVariants.{Begun, Done}
use Rattle.critical_paths.specs.declared.arrival.Place.{Place}
use Rattle.critical_paths.specs.declared.direction.Corner.{Corner}
use Rattle.critical_paths.specs.declared.direction.Corner.TheVariants.{Late as LateCorner, Early as EarlyCorner}
use Rattle.critical_paths.specs.declared.direction.Direction.TheVariants.{Rise, Change}
use Rattle.critical_paths.specs.declared.near.Near.{Near}
use Rattle.critical_paths.specs.declared.path.Paths.{Paths}
use Rattle.critical_paths.specs.declared.region.Region.{Region as Ticked}
use Rattle.critical_paths.specs.Cause.{made1, made2, made3, made4}
use Rattle.critical_paths.specs.Walk.{path_of_stop}
use Rattle.critical_paths.specs.Arrival.{arrivals}
use Rattle.critical_paths.proofs.Circuits.{bounds, circuit, clock, driven, input, of_two_delays, pin, pin_of_complement, wave}
use Rattle.slack_rows.specs.declared.around.Around.{Around}
use Rattle.slack_rows.specs.declared.guard.Guard.{Guard}
use Rattle.slack_rows.specs.declared.held.Held.{Held}
use Rattle.slack_rows.specs.declared.slack.By.TheVariants.{Pulse, Swallowed}
use Rattle.slack_rows.specs.declared.slack.Reason.TheVariants.{Data, DataLoop}
use Rattle.slack_rows.specs.declared.slack.Slacks.{Slacks}
use Rattle.slack_rows.specs.declared.window.Window.{Window as Ticks}
use Rattle.slack_rows.specs.Arrived.{finding_side, two_slacks}
use Rattle.slack_rows.specs.Pulse.{begins_at}
use Rattle.slack_rows.specs.Sides.{guard_by, guards_of, if_near, slacks_around, slacks_of_regions, two_around}
use Rattle.slack_rows.specs.Slack.{Slack, Ticks as TicksLeft, Way}
use Rattle.slack_rows.specs.Views.{finding_none, pulse_begin, slack_by, slack_finding, window_about}
use Rattle.slack_rows.specs.Window.{extent_of}

-- ---- the edges that guard windows

abbrev ticks : ℕ → ℕ → Ticked
ticks first last = record { first = pos first; last = pos last }

abbrev held : Held
held = record { place = 1; pin = pin 1; clock = pin 0; opens = Rise; shuts = Rise }

near_edge : if_near (3, negsuc 99) ≡ Some (3, negsuc 99)
near_edge = refl

far_edge : if_near (3, pos (2 ^ 44 + 1)) ≡ None
far_edge = refl

no_edge : guard_by (window_about (ticks 4 4) (extent_of 1 1)) None ≡ None
no_edge = refl

-- a clock that is to rise at 4, and does so from 3 to 6
abbrev skewed : Circuit
skewed = circuit (input (clock 4 10 (1, 2)) ∷ input (Stable []) ∷ []) []

abbrev skewed_waves : Waves
skewed_waves = waves_of (wave "000RRRR11FFFF000" ∷ wave "CCCCCCCCCCCCCCCC" ∷ [])

guarded_late : guards_of skewed skewed_waves held LateCorner (extent_of 1 1) (ticks 3 6 ∷ [])
    ≡ (window_about (ticks 3 6) (extent_of 1 1), (0, pos 4)) ∷ []
unfolding path_of_stop arrivals back earlier moved normal hazard made1 made2 made3 made4
guarded_late = refl

guarded_early : guards_of skewed skewed_waves held EarlyCorner (extent_of 1 1) (ticks 3 6 ∷ [])
    ≡ (window_about (ticks 3 6) (extent_of 1 1), (0, pos 4)) ∷ []
unfolding path_of_stop arrivals back earlier moved normal hazard made1 made2 made3 made4
guarded_early = refl

-- an edge that no ideal one lies behind guards nothing
unguarded : guards_of skewed skewed_waves held LateCorner (extent_of 1 1) (ticks 4 6 ∷ []) ≡ []
unfolding path_of_stop arrivals back earlier moved normal hazard made1 made2 made3 made4
unguarded = refl

-- ---- two launches: at 14 arrives what the edge at 0 launches, at 17 what the edge at 16 launches

abbrev last_change : Near
last_change = record { ideal = pos 0; tick = pos 14; node = 0; near = (omega arith, omega arith) }

abbrev first_change : Near
first_change = record { ideal = pos 0; tick = pos 1; node = 0; near = (omega arith, omega arith) }

abbrev at : Corner → Place
at corner = record { clock = 0; net = 1; direction = Change; corner = corner }

abbrev done : List (Place × Known)
done = (at LateCorner, Done 0 1) ∷ (at EarlyCorner, Done 1 2) ∷ []

abbrev begun : List (Place × Known)
begun = (at LateCorner, Done 0 1) ∷ (at EarlyCorner, Begun) ∷ []

abbrev arrived : List Near
arrived = last_change ∷ first_change ∷ []

abbrev two : List (Place × Known) → ℕ → Option Slacks
two entries setup =
    two_slacks skewed entries arrived held (window_about (ticks 16 16) (extent_of setup 0)) (ticks 12 18) (Some (0, pos 16))

last_is_late : option_map (λ (s : Slacks). slack_finding s.before) (two done 3) ≡ Some (TicksLeft (negsuc 0))
last_is_late = refl

first_fits : option_map (λ (s : Slacks). slack_finding s.after) (two done 3) ≡ Some (TicksLeft (pos 0))
first_fits = refl

-- none is broken
both_fit : two done 2 ≡ None
both_fit = refl

-- the one comes from a loop
one_alone : two begun 3 ≡ None
one_alone = refl

-- ---- one region that two may make

abbrev around : ℕ → Around
around met = record { last = Some (ticks 12 18); first = None; met = met; two = Some (ticks 12 18) }

the_only_one : two_around (Some held) (around 1) ≡ Some (held, ticks 12 18)
the_only_one = refl

not_the_only_one : two_around (Some held) (around 2) ≡ None
not_the_only_one = refl

of_a_net : two_around None (around 1) ≡ None
of_a_net = refl

by_regions : (c : Circuit) (ws : Waves) (paths : Paths) (w : Ticks) →
    slacks_around c ws paths (Some held) Change w (around 2) ≡ slacks_of_regions (Some held) Change w (around 2)
by_regions c ws paths w = refl

-- ---- ways: 20 ticks from the edge at 0 against 16 - 1, and 3 against 0 + 1 + 1

abbrev guard : Guard
guard = record {
  window = window_about (ticks 0 0) (extent_of 1 1);
  net = 0;
  ideal = pos 0;
  near = (omega arith, omega arith, omega arith);
}

abbrev longest_way : Near
longest_way = record { ideal = pos 0; tick = pos 20; node = 0; near = (omega arith, omega arith) }

abbrev shortest_way : Near
shortest_way = record { ideal = pos 0; tick = pos 3; node = 0; near = (omega arith, omega arith) }

abbrev ways : List Near
ways = longest_way ∷ shortest_way ∷ []

abbrev side : List (Place × Known) → Corner → List Guard → Slack
side entries corner guards = slack_by (finding_side skewed entries ways held corner guards).slack

longest : side done LateCorner (guard ∷ []) ≡ Way (negsuc 4)
longest = refl

shortest : side done EarlyCorner (guard ∷ []) ≡ Way (pos 1)
shortest = refl

by_a_loop : finding_side skewed begun ways held EarlyCorner (guard ∷ []) ≡ finding_none DataLoop 1 Change
by_a_loop = refl

by_no_edge : finding_side skewed done ways held LateCorner [] ≡ finding_none Data 1 Change
by_no_edge = refl

-- ---- a pulse from 4 on that rises at most 4 late, and the least of its wire 2

abbrev wired : Net
wired = record { name = []; bit = 0; spec = (driven 0).spec; wire = bounds 2 3; driver = Some 0 }

abbrev vanishing : Circuit
vanishing = circuit (input (clock 4 6 (0, 0)) ∷ wired ∷ []) (of_two_delays Buf (bounds 1 4) (bounds 1 1) (pin 0 ∷ []) ∷ [])

abbrev vanishing_waves : Waves
vanishing_waves = waves_of (wave "0000R1F000000000" ∷ wave "00000RRF00000000" ∷ [])

late_begin : begins_at vanishing vanishing_waves true (pin 1) ≡ Some (pos 10)
unfolding meeting path_of_stop arrivals back earlier moved normal hazard made1 made2 made3 made4
late_begin = refl

of_the_complement : begins_at vanishing vanishing_waves false (pin_of_complement 1) ≡ Some (pos 10)
unfolding meeting path_of_stop arrivals back earlier moved normal hazard made1 made2 made3 made4
of_the_complement = refl

-- the low pulse does not vanish
stays : begins_at vanishing vanishing_waves false (pin 1) ≡ None
unfolding meeting path_of_stop arrivals back earlier moved normal hazard made1 made2 made3 made4
stays = refl

begins_late : pulse_begin (Some (pos 10)) (pos 4) Swallowed ≡ pos 10
begins_late = refl

begins_there : pulse_begin (Some (pos 10)) (pos 4) Pulse ≡ pos 4
begins_there = refl
