-- Why clauses that are true and refuted leave no run.
--
-- Let a run of a case break the constraint from its printed tick T on. By `BreaksAreInWindow` there
-- is one that is cut where its break ends, and whose break begins in the period from T on. Its
-- inputs keep their assertions, so each `.P` clock that nothing drives comes by some amount later
-- than at its earliest: with these amounts it is a world. Every clause that is made is true of it:
--
--   Lasts t                implies Lasts (t - 1);
--   Pin k p t              shows Net i (t - w), complemented or not, if Wire k p w; and some w
--                          of the bounds of the net's wires is the wire's;
--   Own k t                is the gate's bit of Pin k 0 t, Pin k 1 t, ..;
--   Net i t, driven by k   if Lasts t, and t is at least as far as the equation of k looks back
--                          with its greatest delays: is Own k (t - d) if Delay k d, complemented
--                          or not; of storage what its equation makes of its pins at t - d and of
--                          Net i (t - 1); of a change function the same as Net i (t - 1), or Step k
--                          p u for some pin and some u that its bounds reach; and some d of the
--                          bounds is the delay;
--   Net i t, which nothing if Lasts t: has its bit of the case; or, by its assertion, is Net i
--   drives                 0, is Net i (t - 1) in a quiet slot, is the ideal clock if Offset i by,
--                          and some by of the skew is the offset;
--   First, Second, Beside are the ticks and the pin that the break names: some First lies in the
--                          period from T on, some Second as near to it as the limit says, Lasts
--                          holds at both, and at both the pins step as the break has it.
--
-- A clause speaks of no tick at which nothing is known: a run may end where no run goes on, so what
-- is asked of a tick is asked under Lasts, and nothing is said of a tick after the break.
--
-- If no bits of the facts make all clauses hold, there is no such world, and so no such run. Which
-- clauses are made is free: fewer refute less.
use Rattle.std.specs.Prelude.{ℕ, List}
use Rattle.flat_circuit.specs.declared.case.CaseValue.{CaseValue}
use Rattle.flat_circuit.specs.Circuit.{Circuit}
use Rattle.flat_circuit.specs.Run.{IsRun, Run}
use Rattle.fixpoint_engine.specs.Interface.{MeetsInterface}
use Rattle.case_analysis.specs.Case.{IsInCase}
use Rattle.narrowing.specs.declared.constraint.Constraint.{Constraint}
use Rattle.narrowing.specs.Constraint.{BreaksOf}

-- No run of the case, of any length, whose inputs keep their assertions, breaks the constraint from
-- the tick on.
abbrev pub NeverBreaksFrom : Circuit → List CaseValue → Constraint → ℕ → Type 0
NeverBreaksFrom c values x printed =
    (run : Run) → IsRun c run → MeetsInterface c run → IsInCase values run →
    ¬ BreaksOf c run x printed
