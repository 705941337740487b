-- Launches, arrivals and what is counted twice, over a period of sixteen slots, worked out on
-- paper.
use Rattle.std.specs.Prelude.{◌≡◌, ℕ, [], ◌∷◌, pos, negsuc, Option, Some, None}
use Rattle.std.proofs.Common.{refl}
use Rattle.scald_base.specs.Clock.{back}
use Rattle.scald_base.specs.declared.assertion.AssertSpec.TheVariants.{Stable}
use Rattle.wave_core.specs.Slots.{earlier}
use Rattle.skew_algebra.specs.Wave.{normal, moved}
use Rattle.gate_eval.specs.Hold.{hazard}
use Rattle.element_kinds.specs.declared.kind.Kind.TheVariants.{Buf, Chg, Reg, Xor}
use Rattle.flat_circuit.specs.Circuit.{Circuit}
use Rattle.fixpoint_engine.specs.Waves.{Waves, waves_of}
use Rattle.critical_paths.specs.Cause.{made1, made2, made3, made4}
use Rattle.critical_paths.specs.declared.direction.Corner.TheVariants.{Late, Early}
use Rattle.critical_paths.specs.declared.direction.Direction.{Direction}
use Rattle.critical_paths.specs.declared.direction.Direction.TheVariants.{Rise, Fall, Change}
use Rattle.critical_paths.specs.Event.{Event}
use Rattle.critical_paths.specs.declared.common.Part.TheVariants.{Delay, Offset}
use Rattle.critical_paths.specs.Common.{counted_twice, credit}
use Rattle.critical_paths.specs.Path.{Path}
use Rattle.critical_paths.specs.Walk.{path_of, path_of_stop}
use Rattle.critical_paths.specs.Launch.{Edge, ago, edge_of, offset_of, taken}
use Rattle.critical_paths.specs.Arrival.{Arrival, arrivals}
use Rattle.critical_paths.proofs.Circuits.{bounds, circuit, clock, driven, element, input, late_wave, pin, wave}

abbrev event : ℕ → Direction → ℕ → Event
event net direction slot = record { net = net; direction = direction; slot = slot }

-- ---- the edges of a clock that comes one tick early at most, and two late

abbrev skewed_clock : Circuit
skewed_clock = circuit (input (clock 4 8 (1, 2)) ∷ []) []

-- the ideal clock rises at 4 and falls at 8
latest_rise : offset_of skewed_clock Late (event 0 Rise 6) ≡ Some (pos 2)
unfolding back
latest_rise = refl

earliest_rise : offset_of skewed_clock Early (event 0 Rise 3) ≡ Some (negsuc 0)
unfolding back
earliest_rise = refl

latest_fall : offset_of skewed_clock Late (event 0 Fall 10) ≡ Some (pos 2)
unfolding back
latest_fall = refl

no_rise_there : offset_of skewed_clock Late (event 0 Rise 10) ≡ None
unfolding back
no_rise_there = refl

within_the_skew : offset_of skewed_clock Late (event 0 Rise 5) ≡ None
unfolding back
within_the_skew = refl

no_clock : offset_of (circuit (input (Stable []) ∷ []) []) Late (event 0 Rise 6) ≡ None
unfolding back
no_clock = refl

-- ---- launches

-- a tree of 2 to 4 ticks, and a register of 1 to 2 after it
abbrev tree : Circuit
tree =
    circuit (input (clock 0 8 (1, 1)) ∷ driven 0 ∷ input (Stable []) ∷ driven 1 ∷ [])
    (element Buf (bounds 2 4) (pin 0 ∷ []) ∷ element Reg (bounds 1 2) (pin 1 ∷ pin 2 ∷ []) ∷ [])

abbrev tree_waves : Waves
tree_waves =
    waves_of (late_wave "1111111F0000000R" 2 ∷ late_wave "0R1111111F000000" 4 ∷ wave "CCCCCCCCCCCCCCCC"
    ∷ late_wave "SSCSSSSSSSSSSSSS" 5 ∷ [])

-- Q changes at 2 first, and CK1 rises at 5 at last
abbrev data_path : Path
unfolding path_of_stop back earlier moved normal hazard made1 made2 made3 made4
data_path = path_of tree tree_waves Early (event 3 Change 2)

abbrev clock_path : Path
unfolding path_of_stop back earlier moved normal hazard made1 made2 made3 made4
clock_path = path_of tree tree_waves Late (event 1 Rise 5)

data_takes : taken data_path.links ≡ pos 3
unfolding path_of_stop back earlier moved normal hazard made1 made2 made3 made4
data_takes = refl

clock_takes : taken clock_path.links ≡ pos 4
unfolding path_of_stop back earlier moved normal hazard made1 made2 made3 made4
clock_takes = refl

-- both come from the edge at 0
data_edge : edge_of tree Early (pos 2) data_path ≡ Some (record { net = 0; tick = pos 0 })
unfolding path_of_stop back earlier moved normal hazard made1 made2 made3 made4
data_edge = refl

clock_edge : edge_of tree Late (pos 5) clock_path ≡ Some (record { net = 0; tick = pos 0 })
unfolding path_of_stop back earlier moved normal hazard made1 made2 made3 made4
clock_edge = refl

by_the_edge : ago (edge_of tree Early (pos 2) data_path) (edge_of tree Late (pos 5) clock_path)
    ≡ Some (pos 0)
unfolding path_of_stop back earlier moved normal hazard made1 made2 made3 made4
by_the_edge = refl

-- the same of the next edge is a period before it
a_period_ago : ago (edge_of tree Early (pos 2) data_path) (edge_of tree Late (pos 21) clock_path)
    ≡ Some (pos 16)
unfolding path_of_stop back earlier moved normal hazard made1 made2 made3 made4
a_period_ago = refl

abbrev edge : ℕ → ℕ → Option Edge
edge net tick = Some (record { net = net; tick = pos tick })

by_itself : ago (edge 0 20) (edge 0 20) ≡ Some (pos 0)
by_itself = refl

before_the_edge : ago (edge 0 17) (edge 0 20) ≡ Some (pos 3)
before_the_edge = refl

after_the_edge : ago (edge 0 20) (edge 0 17) ≡ Some (negsuc 2)
after_the_edge = refl

of_two_clocks : ago (edge 0 20) (edge 1 21) ≡ None
of_two_clocks = refl

not_known : ago None (edge 1 21) ≡ None
not_known = refl

-- ---- counted twice

-- the tree by 2 ticks, and the clock's own skew by 2; the register stands on one path alone
twice : counted_twice tree data_path clock_path
    ≡ record { part = Delay 0; amount = 2 } ∷ record { part = Offset 0; amount = 2 } ∷ []
unfolding path_of_stop back earlier moved normal hazard made1 made2 made3 made4
twice = refl

credit_is : credit (counted_twice tree data_path clock_path) ≡ 4
unfolding path_of_stop back earlier moved normal hazard made1 made2 made3 made4
credit_is = refl

-- A change function may take another delay at each change.
abbrev changing_tree : Circuit
changing_tree =
    circuit (input (clock 0 8 (0, 0)) ∷ driven 0 ∷ [])
    (element Chg (bounds 2 4) (pin 0 ∷ []) ∷ [])

abbrev changing_waves : Waves
changing_waves = waves_of (wave "R1111111F0000000" ∷ wave "SSCCCSSSSSCCCSSS" ∷ [])

no_change_function : counted_twice changing_tree
    (path_of changing_tree changing_waves Early (event 1 Change 2))
    (path_of changing_tree changing_waves Late (event 1 Change 4)) ≡ []
unfolding path_of_stop back earlier moved normal hazard made1 made2 made3 made4
no_change_function = refl

-- ---- arrivals

-- CK rises at 0, and D changes 2 to 18 ticks after Q, which is every slot
abbrev always : Circuit
always =
    circuit (input (clock 0 8 (0, 0)) ∷ input (Stable []) ∷ driven 0 ∷ driven 1 ∷ [])
    (element Reg (bounds 1 2) (pin 0 ∷ pin 1 ∷ []) ∷ element Chg (bounds 2 18) (pin 2 ∷ []) ∷ [])

abbrev always_waves : Waves
always_waves =
    waves_of (wave "R1111111F0000000" ∷ wave "SSSSSSSSSSSSSSSS" ∷ late_wave "SCSSSSSSSSSSSSSS" 1 ∷ wave "CCCCCCCCCCCCCCCC" ∷ [])

abbrev arrival : ℕ → ℕ → ℕ → Arrival
arrival source edge tick = record { source = source; edge = pos edge; tick = tick }

last_of_the_edge : arrivals always always_waves Late Change 3 ≡ Some (arrival 0 0 20 ∷ [])
unfolding arrivals back earlier moved normal hazard made1 made2 made3 made4
last_of_the_edge = refl

first_of_the_edge : arrivals always always_waves Early Change 3 ≡ Some (arrival 0 0 3 ∷ [])
unfolding arrivals back earlier moved normal hazard made1 made2 made3 made4
first_of_the_edge = refl

-- each edge of the clock arrives by itself, a fall as a change of its own
each_edge : arrivals changing_tree changing_waves Late Change 1
    ≡ Some (arrival 0 0 4 ∷ arrival 0 8 12 ∷ [])
unfolding arrivals back earlier moved normal hazard made1 made2 made3 made4
each_edge = refl

-- nothing is known through a loop
abbrev looped : Circuit
looped = circuit (input (clock 0 8 (0, 0)) ∷ driven 0 ∷ [])
    (element Xor (bounds 1 1) (pin 0 ∷ pin 1 ∷ []) ∷ [])

none_of_a_loop : arrivals looped (waves_of (wave "R1111111F0000000" ∷ wave "UUUUUUUUUUUUUUUU" ∷ [])) Late Change 1 ≡ None
unfolding arrivals back earlier moved normal hazard made1 made2 made3 made4
none_of_a_loop = refl

-- and a clock that may change in every slot has no edge
no_edge : arrivals changing_tree (waves_of (wave "CCCCCCCCCCCCCCCC" ∷ wave "CCCCCCCCCCCCCCCC" ∷ [])) Late Change 1 ≡ Some []
unfolding arrivals back earlier moved normal hazard made1 made2 made3 made4
no_edge = refl
