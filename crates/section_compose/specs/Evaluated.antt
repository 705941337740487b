-- A settled section. It is evaluated by itself; a net that crosses into it is known by its
-- assertion.
use Rattle.std.specs.Prelude.{◌≡◌, ℕ, ◌+◌, ◌<◌, max, Bool, true, false, List, [], ◌∷◌, length, slice_get, Option, Some, None}
use Rattle.scald_base.specs.Time.{Header}
use Rattle.scald_base.specs.declared.assertion.AssertSpec.{AssertSpec}
use Rattle.step_values.specs.declared.value.Value.{Value}
use Rattle.step_values.specs.Cell.{values}
use Rattle.skew_algebra.specs.Wave.{Wave, normal, skewed}
use Rattle.flat_circuit.specs.declared.fault.Fault.{Fault}
use Rattle.flat_circuit.specs.declared.net.Net.{Net}
use Rattle.flat_circuit.specs.Circuit.{Circuit}
use Rattle.pin_waves.specs.Interface.{wide_wave}
use Rattle.fixpoint_engine.specs.Waves.{Waves}
use Rattle.fixpoint_engine.specs.Reach.{reach}
use Rattle.fixpoint_engine.specs.Rounds.{IsUnsettled, round}
use Rattle.fixpoint_engine.specs.Settled.{AreSettled}
use Rattle.fixpoint_engine.specs.Start.{base_start, default_limit, is_driven}
use Rattle.case_analysis.specs.Tick.{tick}
use Rattle.timing_analysis.specs.Case.{faults_of}
use Rattle.section_compose.specs.Globals.{crosses_into}

-- ---- its rounds

-- In each slot a net that comes from another section may do what its assertion's wide wave has
-- there, in normal form. It has no skew: its driver may be late by another amount at each edge.
abbrev pub wave_across : Header → AssertSpec → Wave Value
wave_across h spec = normal values (skewed (wide_wave h spec) 0)

-- a net that comes in, and one that begins as in a circuit alone
abbrev pub wave_in : Header → Bool → Option Net → Wave Value → Wave Value
wave_in h false net alone = alone
wave_in h true None alone = alone
wave_in h true (Some net) alone = wave_across h net.spec

-- a circuit into which these nets come from elsewhere
abbrev pub start_with : Circuit → (ℕ → Bool) → Waves
start_with c across i = wave_in c.header (across i) (slice_get c.nets i) (base_start c i)

-- the nets that come from other sections
abbrev pub comes_in : List Circuit → Option Net → Bool
comes_in whole None = false
comes_in whole (Some net) = crosses_into whole net

abbrev pub across : List Circuit → Circuit → ℕ → Bool
across whole c i = comes_in whole (slice_get c.nets i)

abbrev pub section_start : List Circuit → Circuit → Waves
section_start whole c = start_with c (across whole c)

-- the waves of a section in each round
abbrev pub section_round : List Circuit → Circuit → ℕ → Waves
section_round whole c = round c (is_driven c) (section_start whole c)

-- ---- settled

-- in how many rounds a section settled, and its waves then
pub record Settling : Type 0 where
  pub rounds : ℕ
  pub waves : Waves

abbrev pub IsSettled : List Circuit → Circuit → Settling → Type 0
IsSettled whole c settling =
    AreSettled c (is_driven c) (section_start whole c) (default_limit c) settling.rounds
    settling.waves

-- Each of these sections has settled, in their order.
abbrev pub AllSettled : List Circuit → List Circuit → List Settling → Type 0
AllSettled whole [] [] = Unit {0}
AllSettled whole [] (settling ∷ settlings) = ⊥
AllSettled whole (c ∷ sections) [] = ⊥
AllSettled whole (c ∷ sections) (settling ∷ settlings) =
    IsSettled whole c settling × AllSettled whole sections settlings

-- The section never settles: the net at this place in name order is the first that still changes.
abbrev pub NeverSettles : List Circuit → Circuit → ℕ → Type 0
NeverSettles whole c place = IsUnsettled c.order (section_round whole c) (default_limit c) place

-- the first section that never settles, if each before it does
pub record StopsAt (whole : List Circuit) (s place : ℕ) : Type 0 where
  pub circuit : Circuit
  pub circuit_is : slice_get whole s ≡ Some circuit
  pub before : (k : ℕ) (c : Circuit) → k < s → slice_get whole k ≡ Some c →
      (settling : Settling) × IsSettled whole c settling
  pub never : NeverSettles whole circuit place

-- ---- what is printed of it

abbrev pub tick_of : Circuit → Settling → ℕ
tick_of c settling = tick (reach c) settling.rounds 0

abbrev pub faults_in : Circuit → Settling → List Fault
faults_in c settling = faults_of c settling.waves

-- the greatest of the ticks, and how many faults there are in all sections
abbrev pub greatest_tick : List Circuit → List Settling → ℕ
greatest_tick [] settlings = 0
greatest_tick (c ∷ sections) [] = 0
greatest_tick (c ∷ sections) (settling ∷ settlings) =
    max (tick_of c settling) (greatest_tick sections settlings)

abbrev pub all_faults : List Circuit → List Settling → ℕ
all_faults [] settlings = 0
all_faults (c ∷ sections) [] = 0
all_faults (c ∷ sections) (settling ∷ settlings) =
    length (faults_in c settling) + all_faults sections settlings
