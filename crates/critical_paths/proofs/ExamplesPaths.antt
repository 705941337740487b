-- Paths over a period of sixteen slots, worked out on paper.
use Rattle.std.specs.Prelude.{◌≡◌, ℕ, List, [], ◌∷◌, negsuc}
use Rattle.std.proofs.Common.{refl}
use Rattle.scald_base.specs.Clock.{back}
use Rattle.scald_base.specs.declared.assertion.AssertSpec.TheVariants.{None as Unasserted, Stable}
use Rattle.wave_core.specs.Slots.{earlier}
use Rattle.skew_algebra.specs.Wave.{normal, moved}
use Rattle.gate_eval.specs.Hold.{hazard}
use Rattle.element_kinds.specs.declared.kind.Kind.TheVariants.{Buf, Chg, Reg, RegRs, Latch}
use Rattle.flat_circuit.specs.Circuit.{Circuit}
use Rattle.fixpoint_engine.specs.Waves.{Waves, waves_of}
use Rattle.critical_paths.specs.Cause.{made1, made2, made3, made4}
use Rattle.critical_paths.specs.declared.direction.Corner.TheVariants.{Late, Early}
use Rattle.critical_paths.specs.declared.direction.Direction.{Direction}
use Rattle.critical_paths.specs.declared.direction.Direction.TheVariants.{Rise, Fall, Change}
use Rattle.critical_paths.specs.Event.{Event}
use Rattle.critical_paths.specs.declared.path.Word.{Word}
use Rattle.critical_paths.specs.declared.path.Word.TheVariants.{Tight, Bounded, Loose, Inside}
use Rattle.critical_paths.specs.declared.path.Passage.TheVariants.{Through, Cut}
use Rattle.critical_paths.specs.Path.{Link, End, Source, Loop, Nothing, Path}
use Rattle.critical_paths.specs.Walk.{path_of, path_of_stop}
use Rattle.critical_paths.proofs.Circuits.{bounds, circuit, clock, driven, element, input, late_wave, of_two_delays, pin, wave}

abbrev event : ℕ → Direction → ℕ → Event
event net direction slot = record { net = net; direction = direction; slot = slot }

-- through a pin, with no wire
abbrev by : ℕ → Direction → ℕ → ℕ → ℕ → Word → Link
by net direction slot pin delay word =
    record { event = event net direction slot; passage = Through pin 0 delay word }

abbrev path : List Link → Event → End → Path
path links last end = record { links = links; last = last; end = end }

-- ---- a register and a change function

-- CK rises at 0; Q may change 1 to 2 ticks after, and D 2 to 14 ticks after Q
abbrev registered : Circuit
registered =
    circuit (input (clock 0 8 (0, 0)) ∷ input (Stable []) ∷ driven 0 ∷ driven 1 ∷ [])
    (element Reg (bounds 1 2) (pin 0 ∷ pin 1 ∷ []) ∷ element Chg (bounds 2 14) (pin 2 ∷ []) ∷ [])

abbrev registered_waves : Waves
registered_waves =
    waves_of (wave "R1111111F0000000" ∷ wave "CCCCCCCCCCCCCCCC" ∷ late_wave "SCSSSSSSSSSSSSSS" 1 ∷ wave "CSSCCCCCCCCCCCCC" ∷ [])

latest : path_of registered registered_waves Late (event 3 Change 0)
    ≡ path (by 3 Change 0 0 14 Tight ∷ by 2 Change 2 0 2 Tight ∷ []) (event 0 Rise 0) Source
unfolding path_of_stop back earlier moved normal hazard made1 made2 made3 made4
latest = refl

earliest : path_of registered registered_waves Early (event 3 Change 3)
    ≡ path (by 3 Change 3 0 2 Tight ∷ by 2 Change 1 0 1 Tight ∷ []) (event 0 Rise 0) Source
unfolding path_of_stop back earlier moved normal hazard made1 made2 made3 made4
earliest = refl

-- From within a region no delay at its bound does, and the greatest that does is taken.
within : path_of registered registered_waves Late (event 3 Change 5)
    ≡ path (by 3 Change 5 0 4 Inside ∷ by 2 Change 1 0 1 Inside ∷ []) (event 0 Rise 0) Source
unfolding path_of_stop back earlier moved normal hazard made1 made2 made3 made4
within = refl

-- ---- a latch

-- PH1 is 1 from 0 to 6, and IN goes on changing past its fall
abbrev latched : Circuit
latched =
    circuit (input (clock 0 6 (0, 0)) ∷ input (Stable []) ∷ driven 0 ∷ [])
    (element Latch (bounds 1 2) (pin 0 ∷ pin 1 ∷ []) ∷ [])

abbrev latched_waves : Waves
latched_waves = waves_of (wave "R11111F000000000" ∷ wave "SSSCCCCCCCCCCSSS" ∷ late_wave "SCSSCCCCSSSSSSSS" 1 ∷ [])

-- what lets IN through ends at 6, and IN itself does not
bounded : path_of latched latched_waves Late (event 2 Change 8)
    ≡ path (by 2 Change 8 0 2 (Bounded 1) ∷ []) (event 0 Fall 6) Source
unfolding path_of_stop back earlier moved normal hazard made1 made2 made3 made4
bounded = refl

-- IN changes at 3 first
from_the_input : path_of latched latched_waves Early (event 2 Change 4)
    ≡ path (by 2 Change 4 1 1 Tight ∷ []) (event 1 Change 3) Source
unfolding path_of_stop back earlier moved normal hazard made1 made2 made3 made4
from_the_input = refl

-- ---- two delays

-- CK is 1 from 0 to 4. X rises 1 to 8 ticks after it, and falls 1 tick after: so it has fallen at
-- 5.
abbrev two : Circuit
two =
    circuit (input (clock 0 4 (0, 0)) ∷ driven 0 ∷ [])
    (of_two_delays Buf (bounds 1 8) (bounds 1 1) (pin 0 ∷ []) ∷ [])

abbrev two_waves : Waves
two_waves = waves_of (wave "R111F00000000000" ∷ wave "0RRRRF0000000000" ∷ [])

-- The last rise is at 4, since the fall at 5 cuts off what comes later.
cut : path_of two two_waves Late (event 1 Rise 4)
    ≡ path (record { event = event 1 Rise 4; passage = Cut (negsuc 0) } ∷ by 1 Fall 5 0 1 Tight ∷
    []) (event 0 Fall 4) Source
unfolding path_of_stop back earlier moved normal hazard made1 made2 made3 made4
cut = refl

-- the first rise and the last fall have delays of their own
first_rise : path_of two two_waves Early (event 1 Rise 1)
    ≡ path (by 1 Rise 1 0 1 Tight ∷ []) (event 0 Rise 0) Source
unfolding path_of_stop back earlier moved normal hazard made1 made2 made3 made4
first_rise = refl

-- Where nothing cuts it off, the last rise is at its greatest delay.
not_cut : path_of two (waves_of (wave "R11111111111F000" ∷ wave "0RRRRRRRR1111F00" ∷ [])) Late (event 1 Rise 8)
    ≡ path (by 1 Rise 8 0 8 Tight ∷ []) (event 0 Rise 0) Source
unfolding path_of_stop back earlier moved normal hazard made1 made2 made3 made4
not_cut = refl

-- ---- where a path ends otherwise

-- X of itself and CK
abbrev looped : Circuit
looped =
    circuit (input (clock 0 8 (0, 0)) ∷ driven 0 ∷ [])
    (element Buf (bounds 8 8) (pin 1 ∷ []) ∷ [])

loop : path_of looped (waves_of (wave "R1111111F0000000" ∷ wave "UUUUUUUUUUUUUUUU" ∷ [])) Late (event 1 Change 3)
    ≡ path (by 1 Change 3 0 8 Loose ∷ by 1 Change 11 0 8 Loose ∷ []) (event 1 Change 3) Loop
unfolding path_of_stop back earlier moved normal hazard made1 made2 made3 made4
loop = refl

-- its set and its reset are both 1
abbrev forced : Circuit
forced =
    circuit (input Unasserted ∷ driven 0 ∷ [])
    (element RegRs (bounds 0 0) (pin 0 ∷ pin 0 ∷ pin 0 ∷ pin 0 ∷ []) ∷ [])

nothing : path_of forced (waves_of (wave "1111111111111111" ∷ wave "CCCCCCCCCCCCCCCC" ∷ [])) Late (event 1 Change 3)
    ≡ path [] (event 1 Change 3) Nothing
unfolding path_of_stop back earlier moved normal hazard made1 made2 made3 made4
nothing = refl
