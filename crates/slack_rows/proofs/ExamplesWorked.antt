-- Slacks of small circuits over a period of sixteen slots, worked out on paper.
use Rattle.std.specs.Prelude.{◌≡◌, ℕ, [], ◌∷◌, pos, negsuc, Some}
use Rattle.std.proofs.Common.{refl}
use Rattle.scald_base.specs.Clock.{back}
use Rattle.scald_base.specs.declared.assertion.AssertSpec.TheVariants.{Stable}
use Rattle.wave_core.specs.Slots.{earlier}
use Rattle.skew_algebra.specs.Wave.{normal, moved}
use Rattle.gate_eval.specs.Hold.{hazard}
use Rattle.gate_eval.specs.Meeting.{meeting}
use Rattle.element_kinds.specs.declared.kind.Kind.TheVariants.{And, Buf, Chg, Latch, MinPulse, Reg, SetupHold, Xor}
use Rattle.flat_circuit.specs.declared.net.Net.{Net}
use Rattle.flat_circuit.specs.Circuit.{Circuit}
use Rattle.fixpoint_engine.specs.Waves.{Waves, waves_of}
use Rattle.critical_paths.specs.Cause.{made1, made2, made3, made4}
use Rattle.critical_paths.specs.Walk.{path_of_stop}
use Rattle.critical_paths.specs.Arrival.{arrivals}
use Rattle.critical_paths.proofs.Circuits.{bounds, checker, circuit, clock, driven, element, input, late_wave, marked_pin, of_two_delays, pin, pin_of_complement, wave}
use Rattle.slack_rows.specs.Slack.{Free, Ticks, Way, NoNumber}
use Rattle.slack_rows.specs.declared.parameter.Word.TheVariants.{Setup, Hold, High, Low, Gate, Before as GateBefore, After as GateAfter, Assert, From as StableFrom, To as StableTo}
use Rattle.slack_rows.specs.declared.parameter.Subject.TheVariants.{Instance as OfInstance, Net as OfNet}
use Rattle.slack_rows.specs.Limit.{finding_in}

-- ---- an input that is stable about the rise at 4

abbrev plain : Circuit
plain = circuit (input (clock 4 6 (0, 0)) ∷ input (Stable []) ∷ []) (checker SetupHold (1, 1) (pin 0 ∷ pin 1 ∷ []) ∷ [])

abbrev plain_waves : Waves
plain_waves = waves_of (wave "0000R1F000000000" ∷ wave "CCCSSSSSCCCCCCCC" ∷ [])

plain_setup : (finding_in plain plain_waves (OfInstance 0) Setup).slack ≡ Ticks (pos 1)
unfolding finding_in path_of_stop arrivals back earlier moved normal hazard made1 made2 made3 made4
plain_setup = refl

plain_hold : (finding_in plain plain_waves (OfInstance 0) Hold).slack ≡ Ticks (pos 2)
unfolding finding_in path_of_stop arrivals back earlier moved normal hazard made1 made2 made3 made4
plain_hold = refl

-- ---- a register and a change function that is too slow: 0 + 2 + 14 against 16 - 1, and 0 + 1 + 2 against 0 + 1 + 1

abbrev slow : ℕ → Circuit
slow most =
    circuit (input (clock 0 8 (0, 0)) ∷ input (Stable []) ∷ driven 0 ∷ driven 1 ∷ [])
    (element Reg (bounds 1 2) (pin 0 ∷ pin 1 ∷ []) ∷ element Chg (bounds 2 most) (pin 2 ∷ []) ∷ checker SetupHold (1, 1) (pin 0 ∷ pin 3 ∷ []) ∷ [])

abbrev slow_waves : Waves
slow_waves =
    waves_of (wave "R1111111F0000000" ∷ wave "CCCCCCCCCCCCCCCC" ∷ late_wave "SCSSSSSSSSSSSSSS" 1 ∷ wave "CSSCCCCCCCCCCCCC" ∷ [])

slow_setup : (finding_in (slow 14) slow_waves (OfInstance 2) Setup).slack ≡ Ticks (negsuc 0)
unfolding finding_in path_of_stop arrivals back earlier moved normal hazard made1 made2 made3 made4
slow_setup = refl

slow_hold : (finding_in (slow 14) slow_waves (OfInstance 2) Hold).slack ≡ Ticks (pos 1)
unfolding finding_in path_of_stop arrivals back earlier moved normal hazard made1 made2 made3 made4
slow_hold = refl

-- ---- it may change at any tick: 0 + 2 + 18 against 16 - 1, by its way alone

abbrev never_waves : Waves
never_waves =
    waves_of (wave "R1111111F0000000" ∷ wave "CCCCCCCCCCCCCCCC" ∷ late_wave "SCSSSSSSSSSSSSSS" 1 ∷ wave "CCCCCCCCCCCCCCCC" ∷ [])

never_setup : (finding_in (slow 18) never_waves (OfInstance 2) Setup).slack ≡ Way (negsuc 4)
unfolding finding_in path_of_stop arrivals back earlier moved normal hazard made1 made2 made3 made4
never_setup = refl

never_hold : (finding_in (slow 18) never_waves (OfInstance 2) Hold).slack ≡ Way (pos 1)
unfolding finding_in path_of_stop arrivals back earlier moved normal hazard made1 made2 made3 made4
never_hold = refl

-- ---- a tree on both sides: 2 + 1 against 4 + 1 + 1, and 18 - 1 against 4 + 2

abbrev tree : Circuit
tree =
    circuit (input (clock 0 8 (0, 0)) ∷ driven 0 ∷ input (Stable []) ∷ driven 1 ∷ [])
    (element Buf (bounds 2 4) (pin 0 ∷ []) ∷ element Reg (bounds 1 2) (pin 1 ∷ pin 2 ∷ []) ∷ checker SetupHold (1, 1) (pin 1 ∷ pin 3 ∷ []) ∷ [])

abbrev tree_waves : Waves
tree_waves =
    waves_of (wave "R1111111F0000000" ∷ late_wave "00R1111111F00000" 2 ∷ wave "CCCCCCCCCCCCCCCC" ∷ late_wave "SSSCSSSSSSSSSSSS" 3 ∷ [])

tree_hold : (finding_in tree tree_waves (OfInstance 2) Hold).slack ≡ Ticks (negsuc 2)
unfolding finding_in path_of_stop arrivals back earlier moved normal hazard made1 made2 made3 made4
tree_hold = refl

tree_setup : (finding_in tree tree_waves (OfInstance 2) Setup).slack ≡ Ticks (pos 11)
unfolding finding_in path_of_stop arrivals back earlier moved normal hazard made1 made2 made3 made4
tree_setup = refl

-- ---- a mark: EN is stable from 2 to 8, and CK lets it through from 4 to 6

abbrev gate : Circuit
gate =
    circuit (input (clock 4 6 (0, 0)) ∷ input (Stable []) ∷ driven 0 ∷ []) (element And (bounds 1 1) (marked_pin 0 ∷ pin 1 ∷ []) ∷ [])

abbrev gate_waves : Waves
gate_waves = waves_of (wave "0000R1F000000000" ∷ wave "CCCSSSSSCCCCCCCC" ∷ wave "00000R1F00000000" ∷ [])

gate_before : (finding_in gate gate_waves (OfInstance 0) GateBefore).slack ≡ Ticks (pos 1)
unfolding finding_in path_of_stop arrivals back earlier moved normal hazard made1 made2 made3 made4
gate_before = refl

gate_after : (finding_in gate gate_waves (OfInstance 0) GateAfter).slack ≡ Ticks (pos 1)
unfolding finding_in path_of_stop arrivals back earlier moved normal hazard made1 made2 made3 made4
gate_after = refl

gate_rests : (finding_in gate gate_waves (OfInstance 0) Gate).slack ≡ Free
unfolding finding_in path_of_stop arrivals back earlier moved normal hazard made1 made2 made3 made4
gate_rests = refl

-- it is 1 in every slot or goes on changing
gate_never_rests : (finding_in gate (waves_of (wave "CCCCCCCCCCCCCCCC" ∷ wave "CCCSSSSSCCCCCCCC" ∷ wave "CCCCCCCCCCCCCCCC" ∷ [])) (OfInstance 0) Gate).slack ≡ NoNumber
unfolding finding_in path_of_stop arrivals back earlier moved normal hazard made1 made2 made3 made4
gate_never_rests = refl

-- ---- an assertion: A changes from 14 to 2, and so X from 15 to 4, which is to be stable from 4 to 12

abbrev held : Net
held = record { name = []; bit = 0; spec = Stable (record { lo = 4; hi = 12 } ∷ []); wire = bounds 0 0; driver = Some 0 }

abbrev assertion : Circuit
assertion = circuit (input (Stable []) ∷ held ∷ []) (element Buf (bounds 1 2) (pin 0 ∷ []) ∷ [])

abbrev assertion_waves : Waves
assertion_waves = waves_of (wave "CCCSSSSSSSSSSSCC" ∷ late_wave "CCCCSSSSSSSSSSSC" 1 ∷ [])

stable_from : (finding_in assertion assertion_waves (OfNet 1) StableFrom).slack ≡ Ticks (pos 0)
unfolding finding_in path_of_stop arrivals back earlier moved normal hazard made1 made2 made3 made4
stable_from = refl

stable_to : (finding_in assertion assertion_waves (OfNet 1) StableTo).slack ≡ Ticks (pos 3)
unfolding finding_in path_of_stop arrivals back earlier moved normal hazard made1 made2 made3 made4
stable_to = refl

no_level : (finding_in assertion assertion_waves (OfNet 1) Assert).slack ≡ Free
unfolding finding_in path_of_stop arrivals back earlier moved normal hazard made1 made2 made3 made4
no_level = refl

-- ---- a latch: its input goes on past the fall of its enable at 6, so Q changes until 8, against 10 - 1

abbrev latched : Circuit
latched =
    circuit (input (clock 0 6 (0, 0)) ∷ input (Stable []) ∷ driven 0 ∷ input (clock 10 14 (0, 0)) ∷ [])
    (element Latch (bounds 1 2) (pin 0 ∷ pin 1 ∷ []) ∷ checker SetupHold (1, 0) (pin 3 ∷ pin 2 ∷ []) ∷ [])

latch_setup : (finding_in latched (waves_of (wave "R11111F000000000" ∷ wave "SSSCCCCCCCCCCSSS" ∷ late_wave "SCSSCCCCSSSSSSSS" 1
    ∷ wave "0000000000R111F0" ∷ [])) (OfInstance 1) Setup).slack ≡ Ticks (pos 1)
unfolding finding_in path_of_stop arrivals back earlier moved normal hazard made1 made2 made3 made4
latch_setup = refl

-- ---- a loop has no number

abbrev looped : Circuit
looped =
    circuit (input (clock 4 6 (0, 0)) ∷ driven 0 ∷ [])
    (element Xor (bounds 1 1) (pin 0 ∷ pin 1 ∷ []) ∷ checker SetupHold (1, 1) (pin 0 ∷ pin 1 ∷ []) ∷ [])

abbrev loop_waves : Waves
loop_waves = waves_of (wave "0000R1F000000000" ∷ wave "UUUUUUUUUUUUUUUU" ∷ [])

loop_setup : (finding_in looped loop_waves (OfInstance 1) Setup).slack ≡ NoNumber
unfolding finding_in path_of_stop arrivals back earlier moved normal hazard made1 made2 made3 made4
loop_setup = refl

loop_hold : (finding_in looped loop_waves (OfInstance 1) Hold).slack ≡ NoNumber
unfolding finding_in path_of_stop arrivals back earlier moved normal hazard made1 made2 made3 made4
loop_hold = refl

-- ---- a clock by its complement: 4 + 4 against 7 - 1, launched by the rise at 4 before the fall at 6

abbrev turned : Circuit
turned =
    circuit (input (clock 4 6 (0, 0)) ∷ input (Stable []) ∷ driven 0 ∷ driven 1 ∷ [])
    (element Reg (bounds 1 4) (pin 0 ∷ pin 1 ∷ []) ∷ element Buf (bounds 1 1) (pin_of_complement 0 ∷ [])
    ∷ checker SetupHold (1, 0) (pin 3 ∷ pin 2 ∷ []) ∷ [])

abbrev turned_waves : Waves
turned_waves =
    waves_of (wave "0000R1F000000000" ∷ wave "CCCCCCCCCCCCCCCC" ∷ late_wave "SSSSSCSSSSSSSSSS" 3 ∷ wave "11111F0R11111111" ∷ [])

turned_setup : (finding_in turned turned_waves (OfInstance 2) Setup).slack ≡ Ticks (negsuc 1)
unfolding finding_in path_of_stop arrivals back earlier moved normal hazard made1 made2 made3 made4
turned_setup = refl

-- late, and so not early: the next change after is that of the next period
turned_hold : (finding_in turned turned_waves (OfInstance 2) Hold).slack ≡ Ticks (pos 13)
unfolding finding_in path_of_stop arrivals back earlier moved normal hazard made1 made2 made3 made4
turned_hold = refl

-- ---- one offset of up to 4 ticks on both sides: 6 + 1 against 8 + 1 + 0 + 1, and 21 - 1 against 10 + 1

abbrev offset : Circuit
offset =
    circuit (input (clock 4 6 (0, 4)) ∷ input (Stable []) ∷ driven 0 ∷ driven 1 ∷ [])
    (element Reg (bounds 1 1) (pin_of_complement 0 ∷ pin 1 ∷ []) ∷ element Buf (bounds 1 1) (pin 0 ∷ [])
    ∷ checker SetupHold (1, 0) (pin 3 ∷ pin 2 ∷ []) ∷ [])

abbrev offset_waves : Waves
offset_waves =
    waves_of (late_wave "0000R1F000000000" 4 ∷ wave "SSSSSSSSSSSSSSSS" ∷ late_wave "SSSSSSSCSSSSSSSS" 4 ∷ late_wave "00000R1F00000000" 4 ∷ [])

offset_hold : (finding_in offset offset_waves (OfInstance 2) Hold).slack ≡ Ticks (negsuc 2)
unfolding finding_in path_of_stop arrivals back earlier moved normal hazard made1 made2 made3 made4
offset_hold = refl

offset_setup : (finding_in offset offset_waves (OfInstance 2) Setup).slack ≡ Ticks (pos 9)
unfolding finding_in path_of_stop arrivals back earlier moved normal hazard made1 made2 made3 made4
offset_setup = refl

-- ---- a pulse of 2 ticks that rises 1 to 4 ticks late and falls 1 tick late: 2 + 1 - 4 is left of it, against 3

abbrev pulse : Circuit
pulse =
    circuit (input (clock 4 6 (0, 0)) ∷ driven 0 ∷ [])
    (of_two_delays Buf (bounds 1 4) (bounds 1 1) (pin 0 ∷ []) ∷ checker MinPulse (3, 0) (pin 1 ∷ []) ∷ [])

abbrev pulse_waves : Waves
pulse_waves = waves_of (wave "0000R1F000000000" ∷ wave "00000RRF00000000" ∷ [])

swallowed : (finding_in pulse pulse_waves (OfInstance 1) High).slack ≡ Ticks (negsuc 3)
unfolding finding_in path_of_stop arrivals back earlier moved normal hazard made1 made2 made3 made4 meeting
swallowed = refl

-- nothing that is asked of its low pulses can break
low_pulse : (finding_in pulse pulse_waves (OfInstance 1) Low).slack ≡ Ticks (pos 14)
unfolding finding_in path_of_stop arrivals back earlier moved normal hazard made1 made2 made3 made4 meeting
low_pulse = refl

-- ---- two ways to one net meet in one region: 1 + 13 + 2 against 16 - 1, and 16 + 0 + 1 against 16 + 0 + 1

abbrev two_ways : Circuit
two_ways =
    circuit (input (clock 0 8 (0, 0)) ∷ input (Stable []) ∷ driven 0 ∷ driven 1 ∷ driven 2 ∷ [])
    (element Reg (bounds 0 1) (pin 0 ∷ pin 1 ∷ []) ∷ element Chg (bounds 6 13) (pin 2 ∷ []) ∷ element Chg (bounds 1 2) (pin 3 ∷ pin 2 ∷ [])
    ∷ checker SetupHold (1, 0) (pin 0 ∷ pin 4 ∷ []) ∷ [])

abbrev two_ways_waves : Waves
two_ways_waves =
    waves_of (wave "R1111111F0000000" ∷ wave "SSSSSSSSSSSSSSSS" ∷ late_wave "CSSSSSSSSSSSSSSS" 1 ∷ wave "SSSSSSCCCCCCCCCS"
    ∷ wave "CCCCSSSCCCCCCCCC" ∷ [])

two_ways_setup : (finding_in two_ways two_ways_waves (OfInstance 3) Setup).slack ≡ Ticks (negsuc 0)
unfolding finding_in path_of_stop arrivals back earlier moved normal hazard made1 made2 made3 made4
two_ways_setup = refl

two_ways_hold : (finding_in two_ways two_ways_waves (OfInstance 3) Hold).slack ≡ Ticks (pos 0)
unfolding finding_in path_of_stop arrivals back earlier moved normal hazard made1 made2 made3 made4
two_ways_hold = refl
