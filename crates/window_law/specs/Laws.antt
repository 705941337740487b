-- A break anywhere is one in a window.
--
-- Shift. Let m be a number of periods, and let a run have more than m periods. Its bits from the
-- m-th period on are a run with the same choices (`LaterPartsAreRuns` of flat_circuit, which holds
-- of any number of ticks). Its inputs keep their assertions, since those speak of slots, and of
-- offsets that stay the same: `back p (t + m p + a) o` is `back p (t + a) o`. It is in each case
-- that the run is in. A pin whose wire takes w ticks shows at t, from w on, what it showed at t + m
-- p: before w it would show the net's first bit, and so the steps of a break have to lie after the
-- wire's delay. They do where its ticks are at least the reach, which is more than any wire of a
-- pin takes. So a break that names the ticks a, b, .. , of at least the reach after the shift, is
-- one of the later part that names a - m p, b - m p, .. .
--
-- Finite. Let a run of any length have a break from the printed tick T on. T is at least the reach.
-- Let a be its least tick, and m the periods in a - T. Then a - m p lies in T to T + p - 1, so the
-- later part has a break from T on whose least tick lies in the first period. How far its other
-- ticks are from that:
--   setup and hold: the change is at most setup - 1 before the edge and at most hold after it;
--   a width: the end is less than the limit after the start;
--   a hazard, an assertion: there is one tick.
-- So the greatest is less than T + p + s, s the sum of the limits. The run is cut after it: a front
-- of a run is a run (`FrontsAreRuns`), its inputs keep their assertions at fewer ticks, and the
-- break names none of the ticks that are cut off. What is left has at most T + p + s ticks, which
-- is less than N(x) = T + 2 p + s + 2.
--
-- Of a clock that rises and next falls the fall may come any number of periods later, so of
-- SETUP_RISE_HOLD_FALL_CHK that is said only if the clock is 0 in some slot of each period: then it
-- falls at most a period after it rises, for which N(x) has a second period.
use Rattle.std.specs.Prelude.{◌↔◌, ℕ, ◌*◌, ◌+◌, ◌≤◌, List}
use Rattle.scald_base.specs.Time.{IsHeader, period}
use Rattle.flat_circuit.specs.declared.case.CaseValue.{CaseValue}
use Rattle.flat_circuit.specs.Circuit.{Circuit}
use Rattle.flat_circuit.specs.Laws.{later_part}
use Rattle.flat_circuit.specs.Run.{IsRun, Run}
use Rattle.fixpoint_engine.specs.Interface.{MeetsInterface}
use Rattle.fixpoint_engine.specs.Reach.{reach}
use Rattle.case_analysis.specs.Case.{IsInCase}
use Rattle.narrowing.specs.declared.constraint.Constraint.{Constraint}
use Rattle.narrowing.specs.declared.constraint.Constraint.TheVariants.{Instance as OfInstance}
use Rattle.narrowing.specs.declared.named.Named.{Named}
use Rattle.narrowing.specs.Break.{IsBreakAt}
use Rattle.narrowing.specs.Constraint.{BreaksOf}
use Rattle.window_law.specs.Shift.{later_by}
use Rattle.window_law.specs.Window.{HasCut, HasLow, IsShort, Window}

-- A run without its first periods is a run, its inputs keep their assertions, and it is in the
-- cases that the run is in.
pub record PeriodsMayGo : Type 0 where
  pub runs : (c : Circuit) (run : Run) (m : ℕ) → IsRun c run →
      IsRun c (later_part (m * period c.header) run)
  pub meets : (c : Circuit) (run : Run) (m : ℕ) → IsHeader c.header → MeetsInterface c run →
      MeetsInterface c (later_part (m * period c.header) run)
  pub in_case : (c : Circuit) (values : List CaseValue) (run : Run) (m : ℕ) → IsInCase values run →
      IsInCase values (later_part (m * period c.header) run)

-- Its breaks at ticks of at least the reach are those of the run, so many periods later.
abbrev pub BreaksMayMove : Type 0
BreaksMayMove =
    (c : Circuit) (run : Run) (x : Constraint) (m from : ℕ) (named : Named) → IsHeader c.header →
    IsRun c run → reach c ≤ from →
    IsBreakAt c run x (m * period c.header + from) (later_by (m * period c.header) named)
    ↔ IsBreakAt c (later_part (m * period c.header) run) x from named

-- A break from the printed tick on, in a run of any length, is one of a run in the window.
abbrev pub BreaksAreInWindow : Type 0
BreaksAreInWindow =
    (c : Circuit) (values : List CaseValue) (x : Constraint) (printed : ℕ) (run : Run) →
    IsHeader c.header → reach c ≤ printed → IsShort c x → IsRun c run → MeetsInterface c run →
    IsInCase values run → BreaksOf c run x printed → HasCut c values x printed

-- So a window refutes the constraint in every run.
abbrev pub WindowRefutes : Type 0
WindowRefutes =
    (c : Circuit) (values : List CaseValue) (x : Constraint) (printed : ℕ) (run : Run) →
    IsHeader c.header → reach c ≤ printed → IsShort c x → Window c values x printed → IsRun c run →
    MeetsInterface c run → IsInCase values run → ¬ BreaksOf c run x printed

-- The same of the checkers whose clock is 0 in a slot, whatever they check.
abbrev pub LowClocksAreInWindow : Type 0
LowClocksAreInWindow =
    (c : Circuit) (values : List CaseValue) (k printed : ℕ) (run : Run) → IsHeader c.header →
    reach c ≤ printed → HasLow c values k printed → IsRun c run → MeetsInterface c run →
    IsInCase values run → BreaksOf c run (OfInstance k) printed →
    HasCut c values (OfInstance k) printed

abbrev pub LowWindowRefutes : Type 0
LowWindowRefutes =
    (c : Circuit) (values : List CaseValue) (k printed : ℕ) (run : Run) → IsHeader c.header →
    reach c ≤ printed → HasLow c values k printed → Window c values (OfInstance k) printed →
    IsRun c run → MeetsInterface c run → IsInCase values run →
    ¬ BreaksOf c run (OfInstance k) printed
