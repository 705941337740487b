-- Pulses over a period of eight slots, worked out on paper.
use Rattle.std.specs.Prelude.{◌≡◌, ℕ, Bool, true, false, List, [], ◌∷◌, map, Option, Some, None}
use Rattle.std.proofs.Common.{refl}
use Rattle.scald_base.specs.Clock.{back}
use Rattle.scald_base.specs.declared.assertion.AssertSpec.TheVariants.{None as Unasserted}
use Rattle.step_values.specs.declared.value.Value.{Value}
use Rattle.step_values.specs.declared.value.Value.TheVariants.{Zero, One, C, R, F, U}
use Rattle.wave_core.specs.Slots.{earlier}
use Rattle.skew_algebra.specs.Wave.{Wave, skewed, moved, normal}
use Rattle.flat_circuit.specs.declared.fault.Fault.{Fault}
use Rattle.flat_circuit.specs.declared.fault.Fault.TheVariants.{Point, Width, Hazard, Assertion}
use Rattle.flat_circuit.specs.declared.fault.PointKind.TheVariants.{Setup}
use Rattle.element_kinds.specs.declared.kind.Kind.TheVariants.{MinPulse}
use Rattle.flat_circuit.specs.declared.limits.Limits.TheVariants.{Pulses}
use Rattle.flat_circuit.specs.declared.limits.Limits.{Limits}
use Rattle.flat_circuit.specs.declared.net.Net.{Net}
use Rattle.flat_circuit.specs.Circuit.{Circuit}
use Rattle.flat_circuit.proofs.RunTables.{on}
use Rattle.fixpoint_engine.proofs.WrittenRuns.{alone, element}
use Rattle.pulse_check.specs.Faults.{width_fault, instance_faults}
use Rattle.pulse_check.specs.Sound.{is_of_pulse}

-- a wave of eight slots, late by up to so many
abbrev eight : ℕ → Value → Value → Value → Value → Value → Value → Value → Value → Wave Value
eight skew a b c d e f g h = skewed (a ∷ b ∷ c ∷ d ∷ e ∷ f ∷ g ∷ h ∷ []) skew

-- the fault of instance 0, of a level and a least width
abbrev fault : Wave Value → Bool → ℕ → Option Fault
fault wave level limit = width_fault 8 0 wave level limit

-- a pulse from slot 2 to slot 4
abbrev pulse : Wave Value
pulse = eight 0 Zero Zero R One F Zero Zero Zero

as_wide_as_asked : fault pulse true 2 ≡ None
unfolding width_fault back earlier
as_wide_as_asked = refl

one_slot_narrow : fault pulse true 3 ≡ Some (Width 0 true 2 2)
unfolding width_fault back earlier
one_slot_narrow = refl

-- it may come up to two slots late, and is as wide
late_by_two : fault (eight 2 Zero Zero R One F Zero Zero Zero) true 2 ≡ None
unfolding width_fault back earlier
late_by_two = refl

over_the_end : fault (eight 0 One F Zero Zero Zero Zero Zero R) true 3 ≡ Some (Width 0 true 7 2)
unfolding width_fault back earlier
over_the_end = refl

-- ---- low pulses

low_enough : fault pulse false 6 ≡ None
unfolding width_fault back earlier
low_enough = refl

low_too_short : fault pulse false 7 ≡ Some (Width 0 false 4 6)
unfolding width_fault back earlier
low_too_short = refl

-- ---- steps that may lie in several slots

abbrev loose : Wave Value
loose = eight 0 Zero R R R F F Zero Zero

last_rise_to_first_fall : fault loose true 2 ≡ Some (Width 0 true 3 1)
unfolding width_fault back earlier
last_rise_to_first_fall = refl

from_the_first_rise : fault loose true 4 ≡ Some (Width 0 true 1 3)
unfolding width_fault back earlier
from_the_first_rise = refl

-- ---- what lies between

does_not_last : fault (eight 0 Zero R Zero F Zero Zero Zero Zero) true 8 ≡ None
unfolding width_fault back earlier
does_not_last = refl

may_change_anywhere : fault (eight 0 Zero C C U C Zero Zero Zero) true 2 ≡ Some (Width 0 true 1 1)
unfolding width_fault back earlier
may_change_anywhere = refl

no_width_asked : fault (eight 0 U U U U U U U U) true 1 ≡ None
unfolding width_fault back earlier
no_width_asked = refl

-- ---- of one checker, high pulses come first, each by its own limit

abbrev net : Net
net = record { name = []; bit = 0; spec = Unasserted; wire = record { min = 0; max = 0 }; driver = None }

abbrev measured : Limits → Circuit
measured limits = record (alone (element MinPulse limits (on 0 ∷ []))) { nets = net ∷ [] }

both_levels : instance_faults (measured (Pulses 3 7)) (λ i. pulse) 0 ≡ Width 0 true 2 2 ∷ Width 0 false 4 6 ∷ []
unfolding instance_faults width_fault moved normal back earlier
both_levels = refl

high_alone : instance_faults (measured (Pulses 3 6)) (λ i. pulse) 0 ≡ Width 0 true 2 2 ∷ []
unfolding instance_faults width_fault moved normal back earlier
high_alone = refl

low_alone : instance_faults (measured (Pulses 2 7)) (λ i. pulse) 0 ≡ Width 0 false 4 6 ∷ []
unfolding instance_faults width_fault moved normal back earlier
low_alone = refl

-- ---- whose a fault is

abbrev each_kind : List Fault
each_kind = Width 3 true 0 1 ∷ Width 3 false 0 1 ∷ Point Setup 3 0 1 67 ∷ Hazard 3 0 1 ∷ Assertion 3 0 67 ∷ []

of_high_pulses : map (is_of_pulse 3 true) each_kind ≡ true ∷ false ∷ false ∷ false ∷ false ∷ []
of_high_pulses = refl

of_low_pulses : map (is_of_pulse 3 false) each_kind ≡ false ∷ true ∷ false ∷ false ∷ false ∷ []
of_low_pulses = refl

of_another : map (is_of_pulse 2 true) each_kind ≡ false ∷ false ∷ false ∷ false ∷ false ∷ []
of_another = refl
