-- Paths and arrivals through wires that take time, over a period of sixteen slots, worked out on
-- paper.
use Rattle.std.specs.Prelude.{◌≡◌, ℕ, List, [], ◌∷◌, pos, Option, Some, None}
use Rattle.std.proofs.Common.{refl}
use Rattle.scald_base.specs.Clock.{back}
use Rattle.scald_base.specs.declared.assertion.AssertSpec.TheVariants.{None as Unasserted}
use Rattle.wave_core.specs.Slots.{earlier}
use Rattle.skew_algebra.specs.Wave.{normal, moved}
use Rattle.gate_eval.specs.Hold.{hazard}
use Rattle.element_kinds.specs.declared.kind.Kind.TheVariants.{Buf, SetupHold}
use Rattle.flat_circuit.specs.declared.instance.Instance.{Instance}
use Rattle.flat_circuit.specs.declared.net.Net.{Net}
use Rattle.flat_circuit.specs.Circuit.{Circuit}
use Rattle.fixpoint_engine.specs.Waves.{Waves, waves_of}
use Rattle.critical_paths.specs.Cause.{made1, made2, made3, made4}
use Rattle.critical_paths.specs.declared.common.Part.TheVariants.{Delay, Wire}
use Rattle.critical_paths.specs.declared.direction.Corner.TheVariants.{Late, Early}
use Rattle.critical_paths.specs.declared.direction.Direction.TheVariants.{Rise}
use Rattle.critical_paths.specs.declared.path.Word.{Word}
use Rattle.critical_paths.specs.declared.path.Word.TheVariants.{Tight, Inside, Same}
use Rattle.critical_paths.specs.declared.path.Passage.TheVariants.{Through}
use Rattle.critical_paths.specs.Common.{counted_twice}
use Rattle.critical_paths.specs.Event.{Event}
use Rattle.critical_paths.specs.Path.{Source, Path}
use Rattle.critical_paths.specs.Walk.{end_path_of, end_pin_path, path_of, path_of_stop, pin_path}
use Rattle.critical_paths.specs.Launch.{Edge, edge_of_pin, taken}
use Rattle.critical_paths.specs.Arrival.{Arrival, arrivals, pin_arrivals}
use Rattle.critical_paths.proofs.Circuits.{bounds, checker, circuit, clock, element, late_wave, pin, wave}

-- CK rises at 0, and its wire takes 1 to 3 ticks. X comes 2 to 4 ticks after that, and its wire
-- takes 1 or 2.
abbrev ck : Net
ck = record { name = []; bit = 0; spec = clock 0 8 (0, 0); wire = bounds 1 3; driver = None }

abbrev x : Net
x = record { name = []; bit = 0; spec = Unasserted; wire = bounds 1 2; driver = Some 0 }

abbrev check : Instance
check = checker SetupHold (1, 1) (pin 1 ∷ pin 1 ∷ [])

abbrev wired : Circuit
wired = circuit (ck ∷ x ∷ []) (element Buf (bounds 2 4) (pin 0 ∷ []) ∷ check ∷ [])

abbrev wired_waves : Waves
wired_waves = waves_of (wave "R1111111F0000000" ∷ late_wave "000R1111111F0000" 4 ∷ [])

abbrev rise : ℕ → ℕ → Event
rise net slot = record { net = net; direction = Rise; slot = slot }

-- X rises in a slot through the pin, by its wire and the element's delay
abbrev path : ℕ → ℕ → ℕ → Word → Path
path slot wire delay word =
    record {
      links = record { event = rise 1 slot; passage = Through 0 wire delay word } ∷ [];
      last = rise 0 0;
      end = Source;
    }

latest : path_of wired wired_waves Late (rise 1 7) ≡ path 7 3 4 Tight
unfolding path_of_stop back earlier moved normal hazard made1 made2 made3 made4
latest = refl

earliest : path_of wired wired_waves Early (rise 1 3) ≡ path 3 1 2 Tight
unfolding path_of_stop back earlier moved normal hazard made1 made2 made3 made4
earliest = refl

-- the greatest delay and the greatest wire that lead to an edge
within : path_of wired wired_waves Late (rise 1 4) ≡ path 4 1 3 Inside
unfolding path_of_stop back earlier moved normal hazard made1 made2 made3 made4
within = refl

-- an end of a pulse takes the least of both
of_a_pulse : end_path_of wired wired_waves Late (rise 1 3) ≡ path 3 1 2 Same
unfolding path_of_stop back earlier moved normal hazard made1 made2 made3 made4
of_a_pulse = refl

takes_both : taken (path 7 3 4 Tight).links ≡ pos 7
takes_both = refl

-- ---- at a pin, by its own wire

last_at_pin : pin_path wired wired_waves Late check 0 Rise 9
    ≡ Some (record { wire = 2; path = path 7 3 4 Tight })
unfolding path_of_stop back earlier moved normal hazard made1 made2 made3 made4
last_at_pin = refl

first_at_pin : pin_path wired wired_waves Early check 0 Rise 4
    ≡ Some (record { wire = 1; path = path 3 1 2 Tight })
unfolding path_of_stop back earlier moved normal hazard made1 made2 made3 made4
first_at_pin = refl

pulse_at_pin : end_pin_path wired wired_waves Late Rise 4 (pin 1)
    ≡ Some (record { wire = 1; path = path 3 1 2 Same })
unfolding path_of_stop back earlier moved normal hazard made1 made2 made3 made4
pulse_at_pin = refl

abbrev edge : Option Edge
edge = Some (record { net = 0; tick = pos 0 })

last_edge : edge_of_pin wired Late 9 (Some (record { wire = 2; path = path 7 3 4 Tight })) ≡ edge
unfolding back
last_edge = refl

first_edge : edge_of_pin wired Early 4 (Some (record { wire = 1; path = path 3 1 2 Tight })) ≡ edge
unfolding back
first_edge = refl

-- ---- arrivals

abbrev arrival : ℕ → Option (List Arrival)
arrival tick = Some (record { source = 0; edge = pos 0; tick = tick } ∷ [])

last_arrival : arrivals wired wired_waves Late Rise 1 ≡ arrival 7
unfolding arrivals back earlier moved normal hazard made1 made2 made3 made4
last_arrival = refl

first_arrival : arrivals wired wired_waves Early Rise 1 ≡ arrival 3
unfolding arrivals back earlier moved normal hazard made1 made2 made3 made4
first_arrival = refl

last_arrival_at_pin : pin_arrivals wired wired_waves Late check 0 Rise ≡ arrival 9
unfolding arrivals back earlier moved normal hazard made1 made2 made3 made4
last_arrival_at_pin = refl

first_arrival_at_pin : pin_arrivals wired wired_waves Early check 0 Rise ≡ arrival 4
unfolding arrivals back earlier moved normal hazard made1 made2 made3 made4
first_arrival_at_pin = refl

-- ---- counted twice

wire_twice : counted_twice wired (path 7 3 4 Tight) (path 3 1 2 Tight)
    ≡ record { part = Delay 0; amount = 2 } ∷ record { part = Wire 0 0; amount = 2 } ∷ []
wire_twice = refl
