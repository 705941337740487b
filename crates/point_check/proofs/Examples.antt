-- Faults over a period of eight slots, worked out on paper.
use Rattle.std.specs.Prelude.{◌≡◌, ℕ, true, false, List, [], ◌∷◌, map, Option, Some, None}
use Rattle.std.proofs.Common.{refl}
use Rattle.scald_base.specs.Time.{Header}
use Rattle.scald_base.specs.Clock.{back}
use Rattle.scald_base.specs.declared.assertion.ClockSpec.{ClockSpec}
use Rattle.scald_base.specs.declared.assertion.AssertSpec.TheVariants.{Precision, Clock, Stable}
use Rattle.step_values.specs.declared.value.Value.{Value}
use Rattle.step_values.specs.declared.value.Value.TheVariants.{Zero, One, S, C, R, F, U}
use Rattle.wave_core.specs.Slots.{earlier}
use Rattle.skew_algebra.specs.Wave.{Wave, skewed, normal}
use Rattle.element_kinds.specs.declared.kind.Kind.{Kind}
use Rattle.element_kinds.specs.declared.kind.Kind.TheVariants.{SetupHold, RiseFall}
use Rattle.flat_circuit.specs.declared.fault.PointKind.TheVariants.{Setup, High, Hold}
use Rattle.flat_circuit.specs.declared.fault.Fault.{Fault}
use Rattle.flat_circuit.specs.declared.fault.Fault.TheVariants.{Point, Width, Hazard, Assertion}
use Rattle.flat_circuit.specs.declared.limits.Limits.TheVariants.{Edges}
use Rattle.flat_circuit.specs.declared.limits.Limits.{Limits}
use Rattle.fixpoint_engine.specs.Pins.{read}
use Rattle.point_check.specs.Point.{high_window, checker_fault}
use Rattle.point_check.specs.Assertion.{assertion_fault}
use Rattle.point_check.specs.Faults.{is_of_instance, is_of_net}

-- a wave of eight slots without a skew
abbrev eight : Value → Value → Value → Value → Value → Value → Value → Value → Wave Value
eight a b c d e f g h = skewed (a ∷ b ∷ c ∷ d ∷ e ∷ f ∷ g ∷ h ∷ []) 0

-- a clock that rises in slot 2 and falls in slot 4
abbrev pulse : Wave Value
pulse = eight Zero Zero R One F Zero Zero Zero

-- an input that may change in one slot alone
abbrev changes_in_1 : Wave Value
changes_in_1 = eight S C S S S S S S

abbrev changes_in_4 : Wave Value
changes_in_4 = eight S S S S C S S S

abbrev changes_in_5 : Wave Value
changes_in_5 = eight S S S S S C S S

abbrev changes_in_7 : Wave Value
changes_in_7 = eight S S S S S S S C

abbrev fault : Kind → Wave Value → Wave Value → Limits → Option Fault
fault kind clock input limits = checker_fault kind 8 0 clock input limits

-- ---- setup and hold

before_the_edge : fault SetupHold pulse changes_in_1 (Edges 2 1) ≡ Some (Point Setup 0 2 1 67)
unfolding checker_fault back earlier
before_the_edge = refl

too_early_to_matter : fault SetupHold pulse changes_in_1 (Edges 1 1) ≡ None
unfolding checker_fault back earlier
too_early_to_matter = refl

after_the_edge : fault SetupHold pulse changes_in_4 (Edges 2 2) ≡ Some (Point Hold 0 2 4 67)
unfolding checker_fault back earlier
after_the_edge = refl

over_the_end : fault SetupHold (eight R F Zero Zero Zero Zero Zero Zero) changes_in_7 (Edges 2 0) ≡ Some (Point Setup 0 0 7 67)
unfolding checker_fault back earlier
over_the_end = refl

no_certain_edge : fault SetupHold (eight Zero Zero C S C Zero Zero Zero) changes_in_1 (Edges 2 1) ≡ Some (Point Setup 0 2 1 67)
unfolding checker_fault back earlier
no_certain_edge = refl

unknown_input : fault SetupHold pulse (eight U U U U U U U U) (Edges 2 1) ≡ Some (Point Setup 0 2 1 85)
unfolding checker_fault back earlier
unknown_input = refl

-- the clock comes up to two slots late, so an edge may lie in slots 2 to 4
late_clock : fault SetupHold (skewed (Zero ∷ Zero ∷ R ∷ One ∷ One ∷ One ∷ F ∷ Zero ∷ []) 2) changes_in_5 (Edges 0 1) ≡ Some (Point Hold 0 4 5 67)
unfolding checker_fault back earlier
late_clock = refl

-- ---- rise and fall

while_high : fault RiseFall pulse changes_in_4 (Edges 1 1) ≡ Some (Point High 0 2 4 67)
unfolding checker_fault back earlier
while_high = refl

behind_the_fall : fault RiseFall pulse changes_in_5 (Edges 1 1) ≡ Some (Point Hold 0 2 5 67)
unfolding checker_fault back earlier
behind_the_fall = refl

behind_its_hold : fault RiseFall pulse changes_in_5 (Edges 1 0) ≡ None
unfolding checker_fault back earlier
behind_its_hold = refl

to_the_last_fall : high_window 8 (read (Zero ∷ R ∷ F ∷ F ∷ C ∷ Zero ∷ F ∷ Zero ∷ [])) (Edges 3 2) 1 ≡ Some (record { setup = 3; high = 3; hold = 2 })
unfolding back earlier
to_the_last_fall = refl

low_before_it_falls : high_window 8 (read (Zero ∷ R ∷ Zero ∷ F ∷ Zero ∷ Zero ∷ Zero ∷ Zero ∷ [])) (Edges 3 2) 1 ≡ None
unfolding back earlier
low_before_it_falls = refl

never_falls : high_window 8 (read (One ∷ R ∷ One ∷ One ∷ S ∷ One ∷ One ∷ One ∷ [])) (Edges 3 2) 1 ≡ None
unfolding back earlier
never_falls = refl

falls_anywhere : high_window 8 (read (C ∷ C ∷ C ∷ C ∷ C ∷ C ∷ C ∷ C ∷ [])) (Edges 3 2) 1 ≡ Some (record { setup = 3; high = 8; hold = 0 })
unfolding back earlier
falls_anywhere = refl

-- The window has slots 5 to 7 and 0 up to the edge, and then all slots once more: slot 7 comes first before the edge, and
-- slot 1 after it.
first_before : fault RiseFall (eight C C C C C C C C) changes_in_7 (Edges 4 0) ≡ Some (Point Setup 0 0 7 67)
unfolding checker_fault back earlier
first_before = refl

first_behind : fault RiseFall (eight C C C C C C C C) changes_in_1 (Edges 4 0) ≡ Some (Point High 0 0 1 67)
unfolding checker_fault back earlier
first_behind = refl

-- ---- assertions

abbrev header : Header
header = record { units = 8; ticks = 1; wire = record { min = 0; max = 0 }; pskew = (0, 0); cskew = (1, 0) }

abbrev from_2_to_4 : ClockSpec
from_2_to_4 = record { spans = record { lo = 2; hi = 4 } ∷ []; low = false; skew = None }

still_from_2_to_6 : assertion_fault header (Stable (record { lo = 2; hi = 6 } ∷ [])) 3 (eight C C C S C C C C) ≡ Some (Assertion 3 4 67)
unfolding assertion_fault back earlier normal
still_from_2_to_6 = refl

precisely_2_to_4 : assertion_fault header (Precision from_2_to_4) 3 pulse ≡ None
unfolding assertion_fault back earlier normal
precisely_2_to_4 = refl

one_slot_late : assertion_fault header (Precision from_2_to_4) 3 (skewed (Zero ∷ Zero ∷ R ∷ One ∷ F ∷ Zero ∷ Zero ∷ Zero ∷ []) 1) ≡ Some (Assertion 3 3 82)
unfolding assertion_fault back earlier normal
one_slot_late = refl

-- each edge of a clock may come one tick early
one_slot_early : assertion_fault header (Clock from_2_to_4) 3 (eight Zero R One F Zero Zero Zero Zero) ≡ None
unfolding assertion_fault back earlier normal
one_slot_early = refl

-- ---- whose a fault is

abbrev each_kind : List Fault
each_kind = Point Setup 3 0 1 67 ∷ Point High 3 0 1 67 ∷ Point Hold 3 0 1 67 ∷ Hazard 3 0 1 ∷ Width 3 true 0 1 ∷ Assertion 3 0 67 ∷ []

of_instance_3 : map (is_of_instance 3) each_kind ≡ true ∷ true ∷ true ∷ true ∷ true ∷ false ∷ []
of_instance_3 = refl

of_instance_2 : map (is_of_instance 2) each_kind ≡ false ∷ false ∷ false ∷ false ∷ false ∷ false ∷ []
of_instance_2 = refl

of_net_3 : map (is_of_net 3) each_kind ≡ false ∷ false ∷ false ∷ false ∷ false ∷ true ∷ []
of_net_3 = refl

of_net_2 : map (is_of_net 2) each_kind ≡ false ∷ false ∷ false ∷ false ∷ false ∷ false ∷ []
of_net_2 = refl
