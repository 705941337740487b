-- Windows: runs that are short, and how many ticks are enough.
use Rattle.std.specs.Prelude.{◌≡◌, ℕ, ◌+◌, ◌*◌, ◌<◌, ◌≤◌, Bool, List, slice_get, Option, Some, None, ⊤, ◌%◌, false}
use Rattle.scald_base.specs.Time.{period}
use Rattle.element_kinds.specs.declared.form.Check.TheVariants.{SetupHold as AboutRise, RiseFall as RiseToFall, MinPulse as Widths}
use Rattle.element_kinds.specs.declared.form.Form.{Form}
use Rattle.element_kinds.specs.declared.form.Form.TheVariants.{Gate, Change, Register, Latch as Enabled, Checker}
use Rattle.element_kinds.specs.Kinds.{form_of}
use Rattle.flat_circuit.specs.declared.case.CaseValue.{CaseValue}
use Rattle.flat_circuit.specs.declared.instance.Instance.{Instance}
use Rattle.flat_circuit.specs.Limits.{hold_of, setup_of}
use Rattle.flat_circuit.specs.Circuit.{Circuit}
use Rattle.flat_circuit.specs.Run.{Choice, IsRun, Run}
use Rattle.fixpoint_engine.specs.Interface.{MeetsInterface}
use Rattle.fixpoint_engine.specs.Pins.{pin_at}
use Rattle.case_analysis.specs.Case.{IsInCase}
use Rattle.pulse_check.specs.Break.{limit_of}
use Rattle.narrowing.specs.declared.constraint.Constraint.{Constraint}
use Rattle.narrowing.specs.declared.constraint.Constraint.TheVariants.{Instance as OfInstance, Pulse as OfPulse, Net as OfNet}
use Rattle.narrowing.specs.declared.named.Named.{Named}
use Rattle.narrowing.specs.Break.{IsBreakAt}
use Rattle.narrowing.specs.Constraint.{BreaksOf}
use Rattle.narrowing.specs.Named.{first_of, last_of}

-- ---- how many ticks are enough

-- the limits of a checker's edges together; 0 of what has none, as a marked element
abbrev pub edge_limits : Option Instance → ℕ
edge_limits None = 0
edge_limits (Some j) = setup_of j.limits + hold_of j.limits

abbrev pub width_limit : Option Instance → Bool → ℕ
width_limit None level = 0
width_limit (Some j) level = limit_of j level

-- the sum of the limits of a constraint; of a width that of its own level alone
abbrev pub limits_of : Circuit → Constraint → ℕ
limits_of c (OfInstance k) = edge_limits (slice_get c.instances k)
limits_of c (OfPulse k high) = width_limit (slice_get c.instances k) high
limits_of c (OfNet i) = 0

-- N(x): two periods and the limits after the printed tick
abbrev pub most_ticks : Circuit → Constraint → ℕ → ℕ
most_ticks c x printed = printed + 2 * period c.header + limits_of c x + 2

-- ---- no short run breaks the constraint

-- No run of at most so many ticks that is in the case, and whose inputs keep their assertions, has
-- a break of the constraint all of whose ticks are the printed one or later.
abbrev pub Window : Circuit → List CaseValue → Constraint → ℕ → Type 0
Window c values x printed =
    (run : Run) → IsRun c run → MeetsInterface c run → IsInCase values run →
    run.ticks ≤ most_ticks c x printed → ¬ BreaksOf c run x printed

-- ---- runs that are as short as a break allows

-- A run of the case has a break that names these ticks, of which the least lies in the period that
-- begins with the printed tick, and it ends with the greatest.
pub record IsCut (c : Circuit) (values : List CaseValue) (x : Constraint) (printed : ℕ) (run : Run)
    (named : Named) : Type 0 where
  pub is_run : IsRun c run
  pub meets : MeetsInterface c run
  pub in_case : IsInCase values run
  pub breaks : IsBreakAt c run x printed named
  pub first : first_of named < printed + period c.header
  pub ends : run.ticks ≡ last_of named + 1

pub record HasCut (c : Circuit) (values : List CaseValue) (x : Constraint) (printed : ℕ) :
    Type 0 where
  pub run : Run
  pub named : Named
  pub cut : IsCut c values x printed run named
  pub short : run.ticks ≤ most_ticks c x printed

-- ---- constraints whose breaks are short

-- All but those about a clock that rises and next falls: it may stay high for any number of
-- periods.
abbrev pub IsShortForm : Form → Type 0
IsShortForm Gate = ⊤
IsShortForm Change = ⊤
IsShortForm (Register forced) = ⊤
IsShortForm (Enabled forced) = ⊤
IsShortForm (Checker AboutRise) = ⊤
IsShortForm (Checker RiseToFall) = ⊥
IsShortForm (Checker Widths) = ⊤

abbrev pub IsShortOf : Option Instance → Type 0
IsShortOf None = ⊤
IsShortOf (Some j) = IsShortForm (form_of j.kind)

abbrev pub IsShort : Circuit → Constraint → Type 0
IsShort c (OfInstance k) = IsShortOf (slice_get c.instances k)
IsShort c (OfPulse k high) = ⊤
IsShort c (OfNet i) = ⊤

-- In every run of the case, from the printed tick on, the clock of a checker is 0 at the ticks of a
-- slot. So it falls within a period after it rises.
pub record HasLow (c : Circuit) (values : List CaseValue) (k printed : ℕ) : Type 0 where
  pub slot : ℕ
  pub inside : slot < period c.header
  pub low : (run : Run) (j : Instance) (choice : Choice) (t : ℕ) → IsRun c run →
      MeetsInterface c run → IsInCase values run → slice_get c.instances k ≡ Some j →
      slice_get run.choices k ≡ Some choice → printed ≤ t → t < run.ticks →
      t % period c.header ≡ slot → pin_at run j choice 0 t ≡ false
