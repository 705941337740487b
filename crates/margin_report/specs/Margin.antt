-- How much more a checker may ask for: the values of a parameter that fit, and the margin of the
-- written one.
use Rattle.std.specs.Prelude.{◌≡◌, ℕ, zero, suc, ◌+◌, ◌-◌, ◌≤◌, ◌==◌, Bool, true, false, is_none, List, [], ◌∷◌, filter_map, if◌then◌else◌, Option, Some, None, IfSome}
use Rattle.std.specs.List.{list_all}
use Rattle.std.specs.Option.{option_map}
use Rattle.element_kinds.specs.Kinds.{checks_points, checks_pulses}
use Rattle.element_kinds.specs.declared.form.Check.{Check}
use Rattle.element_kinds.specs.declared.form.Check.TheVariants.{SetupHold as AboutRise, RiseFall as RiseToFall, MinPulse as Widths}
use Rattle.scald_base.specs.Time.{period}
use Rattle.flat_circuit.specs.Limits.{setup_of, hold_of, high_of, low_of}
use Rattle.flat_circuit.specs.declared.instance.Instance.{Instance}
use Rattle.flat_circuit.specs.declared.fault.Fault.{Fault}
use Rattle.flat_circuit.specs.Circuit.{Circuit}
use Rattle.flat_circuit.specs.declared.limits.Limits.TheVariants.{Edges}
use Rattle.flat_circuit.specs.declared.limits.Limits.{Limits}
use Rattle.fixpoint_engine.specs.Waves.{Waves}
use Rattle.point_check.specs.Faults.{limited_fault as point_fault}
use Rattle.pulse_check.specs.Faults.{limited_fault as width_fault}
use Rattle.timing_analysis.specs.Case.{Case}
use Rattle.margin_report.specs.declared.margin.Parameter.{Parameter}
use Rattle.margin_report.specs.declared.margin.Parameter.TheVariants.{Setup, Hold, High, Low}
use Rattle.margin_report.specs.declared.margin.Margin.{Margin}
use Rattle.margin_report.specs.declared.margin.Margin.TheVariants.{Fault as Faulty, Limit, Next}

-- ---- parameters

-- those of a checker, by what it checks, in the order of the language
abbrev pub parameters_in : Option Check → List Parameter
parameters_in None = []
parameters_in (Some AboutRise) = Setup ∷ Hold ∷ []
parameters_in (Some RiseToFall) = Setup ∷ Hold ∷ []
parameters_in (Some Widths) = High ∷ Low ∷ []

-- the written value, of a checker's limits
abbrev pub written : Limits → Parameter → ℕ
written limits Setup = setup_of limits
written limits Hold = hold_of limits
written limits High = high_of limits
written limits Low = low_of limits

-- How much more may be written in a period of p ticks: setup and hold are together at most the
-- period, and so is each of the two widths.
abbrev pub spare : ℕ → Limits → Parameter → ℕ
spare p limits Setup = p - (setup_of limits + hold_of limits)
spare p limits Hold = p - (setup_of limits + hold_of limits)
spare p limits High = p - high_of limits
spare p limits Low = p - low_of limits

-- the checker has the parameter
abbrev pub IsAskedBy : Instance → Parameter → Type 0
IsAskedBy j Setup = checks_points j.kind ≡ true
IsAskedBy j Hold = checks_points j.kind ≡ true
IsAskedBy j High = checks_pulses j.kind ≡ true
IsAskedBy j Low = checks_pulses j.kind ≡ true

-- its limits are those that a period of p ticks allows
abbrev pub AreWithin : ℕ → Limits → Parameter → Type 0
AreWithin p limits Setup = setup_of limits + hold_of limits ≤ p
AreWithin p limits Hold = setup_of limits + hold_of limits ≤ p
AreWithin p limits High = high_of limits ≤ p
AreWithin p limits Low = low_of limits ≤ p

-- by how much more the value could be, if the written one fits
abbrev pub more_in : Margin → Option ℕ
more_in Faulty = None
more_in (Limit more) = Some more
more_in (Next more case fault) = Some more

-- so much more is at most what may be written
abbrev pub IsBelow : Margin → ℕ → Type 0
IsBelow margin most = IfSome (more_in margin) (λ more. more ≤ most)

-- ---- fitting

-- The fault that checker k has in these waves if a parameter has this value and the other is as
-- it is written. The width of high pulses has the faults of high pulses alone, and that of low ones
-- those of low ones.
abbrev pub fault_with : Circuit → Waves → ℕ → Instance → Parameter → ℕ → Option Fault
fault_with c ws k j Setup value = point_fault c ws k j (Edges value (hold_of j.limits))
fault_with c ws k j Hold value = point_fault c ws k j (Edges (setup_of j.limits) value)
fault_with c ws k j High value = width_fault c ws k j true value
fault_with c ws k j Low value = width_fault c ws k j false value

abbrev pub numbered_fault : Circuit → ℕ → Instance → Parameter → ℕ → Case → Option (ℕ × Fault)
numbered_fault c k j parameter value case =
    option_map (λ fault. (case.listed.number, fault)) (fault_with c case.waves k j parameter value)

-- in each case that has one, by the number of the case
abbrev pub faults_with : Circuit → List Case → ℕ → Instance → Parameter → ℕ → List (ℕ × Fault)
faults_with c cases k j parameter value = filter_map (numbered_fault c k j parameter value) cases

-- The value fits: no case has such a fault.
abbrev pub fits : Circuit → List Case → ℕ → Instance → Parameter → ℕ → Bool
fits c cases k j parameter value =
    list_all (λ (case : Case). is_none (fault_with c case.waves k j parameter value)) cases

-- With so much more than it is written there is no fault in these waves, and with one more there is
-- this one.
pub record StopsAt (c : Circuit) (ws : Waves) (k : ℕ) (j : Instance) (parameter : Parameter)
    (more : ℕ) (fault : Fault) : Type 0 where
  pub fits : fault_with c ws k j parameter (written j.limits parameter + more) ≡ None
  pub stops : fault_with c ws k j parameter (written j.limits parameter + (more + 1)) ≡ Some fault

-- ---- the margin

-- the greatest of 1 to n that passes, or 0
abbrev pub greatest_to : (ℕ → Bool) → ℕ → ℕ
greatest_to test zero = 0
greatest_to test (suc n) = if test (suc n) then suc n else greatest_to test n

-- by how much more than it is written a value that fits is at most
abbrev pub most_more : Circuit → List Case → ℕ → Instance → Parameter → ℕ
most_more c cases k j parameter =
    greatest_to (λ m. fits c cases k j parameter (written j.limits parameter + m))
    (spare (period c.header) j.limits parameter)

-- so much, and the first of these faults
abbrev pub up_to : ℕ → List (ℕ × Fault) → Margin
up_to more [] = Limit more
up_to more (found ∷ others) = Next more found.0 found.1

-- what bounds that: the greatest value that may be written, or the first case that has a fault with
-- one more
abbrev pub bounded_by : Circuit → List Case → ℕ → Instance → Parameter → ℕ → Margin
bounded_by c cases k j parameter more =
    if more == spare (period c.header) j.limits parameter then Limit more
    else up_to more (faults_with c cases k j parameter (written j.limits parameter + (more + 1)))

-- the margin of a parameter of checker k over these cases
unfoldable pub margin : Circuit → List Case → ℕ → Instance → Parameter → Margin
margin c cases k j parameter =
    if fits c cases k j parameter (written j.limits parameter)
    then bounded_by c cases k j parameter (most_more c cases k j parameter)
    else Faulty
