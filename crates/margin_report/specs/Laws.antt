-- Laws of margins.
use Rattle.std.specs.Prelude.{◌≡◌, ℕ, ◌+◌, ◌≤◌, ◌<◌, true, false, List, ◌∷◌}
use Rattle.scald_base.specs.Time.{period}
use Rattle.wave_core.specs.Slots.{IsPeriod}
use Rattle.flat_circuit.specs.declared.instance.Instance.{Instance}
use Rattle.flat_circuit.specs.declared.fault.Fault.{Fault}
use Rattle.flat_circuit.specs.Circuit.{Circuit}
use Rattle.timing_analysis.specs.Case.{Case}
use Rattle.margin_report.specs.declared.margin.Parameter.{Parameter}
use Rattle.margin_report.specs.declared.margin.Margin.{Margin}
use Rattle.margin_report.specs.declared.margin.Margin.TheVariants.{Fault as Faulty, Limit, Next}
use Rattle.margin_report.specs.Margin.{faults_with, fits, margin, spare, written}

-- If a value fits, so does each smaller one: if one does not, no greater one does.
abbrev pub FittingIsMonotone : Type 0
FittingIsMonotone =
    (c : Circuit) (cases : List Case) (k : ℕ) (j : Instance) (parameter : Parameter)
    (less value : ℕ) →
    IsPeriod (period c.header) → less ≤ value →
    fits c cases k j parameter value ≡ true → fits c cases k j parameter less ≡ true

-- So much more than it is written fits and may be written, and nothing above that does both.
pub record IsGreatest (c : Circuit) (cases : List Case) (k : ℕ) (j : Instance)
    (parameter : Parameter) (more : ℕ) : Type 0 where
  pub may : more ≤ spare (period c.header) j.limits parameter
  pub fitting : fits c cases k j parameter (written j.limits parameter + more) ≡ true
  pub greatest : (m : ℕ) → m ≤ spare (period c.header) j.limits parameter →
      fits c cases k j parameter (written j.limits parameter + m) ≡ true → m ≤ more

-- With one more this case is the first that has a fault, and this is the fault.
pub record IsNext (c : Circuit) (cases : List Case) (k : ℕ) (j : Instance) (parameter : Parameter)
    (more number : ℕ) (fault : Fault) : Type 0 where
  pub others : List (ℕ × Fault)
  pub is : faults_with c cases k j parameter (written j.limits parameter + (more + 1))
      ≡ (number, fault) ∷ others

-- What a margin says is so.
abbrev pub IsTrueOf : Circuit → List Case → ℕ → Instance → Parameter → Margin → Type 0
IsTrueOf c cases k j parameter Faulty =
    fits c cases k j parameter (written j.limits parameter) ≡ false
IsTrueOf c cases k j parameter (Limit more) =
    IsGreatest c cases k j parameter more × (more ≡ spare (period c.header) j.limits parameter)
IsTrueOf c cases k j parameter (Next more number fault) =
    (IsGreatest c cases k j parameter more × (more < spare (period c.header) j.limits parameter))
    × IsNext c cases k j parameter more number fault

abbrev pub MarginsAreTrue : Type 0
MarginsAreTrue =
    (c : Circuit) (cases : List Case) (k : ℕ) (j : Instance) (parameter : Parameter) →
    IsTrueOf c cases k j parameter (margin c cases k j parameter)
