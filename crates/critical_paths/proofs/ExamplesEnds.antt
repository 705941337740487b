-- Paths of the ends of pulses over a period of sixteen slots, worked out on paper.
use Rattle.std.specs.Prelude.{◌≡◌, ℕ, List, [], ◌∷◌}
use Rattle.std.proofs.Common.{refl}
use Rattle.scald_base.specs.Clock.{back}
use Rattle.wave_core.specs.Slots.{earlier}
use Rattle.skew_algebra.specs.Wave.{normal, moved}
use Rattle.gate_eval.specs.Hold.{hazard}
use Rattle.element_kinds.specs.declared.kind.Kind.TheVariants.{Buf, Chg, Xor}
use Rattle.flat_circuit.specs.Circuit.{Circuit}
use Rattle.fixpoint_engine.specs.Waves.{Waves, waves_of}
use Rattle.critical_paths.specs.declared.direction.Corner.TheVariants.{Late, Early}
use Rattle.critical_paths.specs.declared.direction.Direction.{Direction}
use Rattle.critical_paths.specs.declared.direction.Direction.TheVariants.{Rise, Fall, Change}
use Rattle.critical_paths.specs.declared.path.Passage.TheVariants.{Through}
use Rattle.critical_paths.specs.declared.path.Word.{Word}
use Rattle.critical_paths.specs.declared.path.Word.TheVariants.{Tight, Same}
use Rattle.critical_paths.specs.Cause.{made1, made2, made3, made4}
use Rattle.critical_paths.specs.Event.{Event}
use Rattle.critical_paths.specs.Path.{Link, Path, Source}
use Rattle.critical_paths.specs.Walk.{end_path_of, path_of_stop}
use Rattle.critical_paths.proofs.Circuits.{bounds, circuit, clock, driven, element, input, late_wave, of_two_delays, pin, wave}

abbrev event : ℕ → Direction → ℕ → Event
event net direction slot = record { net = net; direction = direction; slot = slot }

-- through a pin, with no wire
abbrev by : ℕ → Direction → ℕ → ℕ → ℕ → Word → Link
by net direction slot pin delay word =
    record { event = event net direction slot; passage = Through pin 0 delay word }

abbrev path : List Link → Event → Path
path links last = record { links = links; last = last; end = Source }

-- ---- a tree of 2 to 4 ticks, after a clock that comes up to one tick early or late as a whole

abbrev tree : Circuit
tree = circuit (input (clock 0 8 (1, 1)) ∷ driven 0 ∷ [])
    (element Buf (bounds 2 4) (pin 0 ∷ []) ∷ [])

abbrev tree_waves : Waves
tree_waves = waves_of (late_wave "1111111F0000000R" 2 ∷ late_wave "0R1111111F000000" 4 ∷ [])

-- both ends take the least delay
begin_of_one : end_path_of tree tree_waves Late (event 1 Rise 1)
    ≡ path (by 1 Rise 1 0 2 Same ∷ []) (event 0 Rise 15)
unfolding path_of_stop back earlier moved normal hazard made1 made2 made3 made4
begin_of_one = refl

end_of_one : end_path_of tree tree_waves Early (event 1 Fall 9)
    ≡ path (by 1 Fall 9 0 2 Same ∷ []) (event 0 Fall 7)
unfolding path_of_stop back earlier moved normal hazard made1 made2 made3 made4
end_of_one = refl

-- ---- two delays: X rises 1 to 8 ticks after CK, and falls 1 tick after

abbrev two : Circuit
two =
    circuit (input (clock 0 12 (0, 0)) ∷ driven 0 ∷ [])
    (of_two_delays Buf (bounds 1 8) (bounds 1 1) (pin 0 ∷ []) ∷ [])

abbrev two_waves : Waves
two_waves = waves_of (wave "R11111111111F000" ∷ wave "0RRRRRRRR1111F00" ∷ [])

-- the begin takes the greatest of the rise, and the end the least of the fall
begin_of_two : end_path_of two two_waves Late (event 1 Rise 8)
    ≡ path (by 1 Rise 8 0 8 Tight ∷ []) (event 0 Rise 0)
unfolding path_of_stop back earlier moved normal hazard made1 made2 made3 made4
begin_of_two = refl

end_of_two : end_path_of two two_waves Early (event 1 Fall 13)
    ≡ path (by 1 Fall 13 0 1 Tight ∷ []) (event 0 Fall 12)
unfolding path_of_stop back earlier moved normal hazard made1 made2 made3 made4
end_of_two = refl

-- ---- two pins that move: the element takes its least delay, and the path goes on by folds

abbrev both : Circuit
both =
    circuit (input (clock 0 8 (0, 0)) ∷ input (clock 4 12 (0, 0)) ∷ driven 0 ∷ [])
    (element Xor (bounds 2 3) (pin 0 ∷ pin 1 ∷ []) ∷ [])

abbrev both_waves : Waves
both_waves = waves_of (wave "R1111111F0000000" ∷ wave "0000R1111111F000" ∷ late_wave "00R111F000R111F0" 1 ∷ [])

begin_of_many : end_path_of both both_waves Late (event 2 Rise 2)
    ≡ path (by 2 Rise 2 0 2 Same ∷ []) (event 0 Rise 0)
unfolding path_of_stop back earlier moved normal hazard made1 made2 made3 made4
begin_of_many = refl

end_of_many : end_path_of both both_waves Early (event 2 Fall 6)
    ≡ path (by 2 Fall 6 1 2 Same ∷ []) (event 1 Rise 4)
unfolding path_of_stop back earlier moved normal hazard made1 made2 made3 made4
end_of_many = refl

-- ---- what a change function drives is read by folds, at its corners

abbrev changing : Circuit
changing =
    circuit (input (clock 0 8 (0, 0)) ∷ driven 0 ∷ [])
    (element Chg (bounds 2 4) (pin 0 ∷ []) ∷ [])

abbrev changing_waves : Waves
changing_waves = waves_of (wave "R1111111F0000000" ∷ wave "SSCCCSSSSSCCCSSS" ∷ [])

begin_of_change : end_path_of changing changing_waves Late (event 1 Change 4)
    ≡ path (by 1 Change 4 0 4 Tight ∷ []) (event 0 Rise 0)
unfolding path_of_stop back earlier moved normal hazard made1 made2 made3 made4
begin_of_change = refl
