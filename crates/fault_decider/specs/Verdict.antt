-- What is promised of a fault: that the run which is written breaks its constraint, or that no run
-- does from a tick on.
use Rattle.std.specs.Prelude.{◌≡◌, ℕ, ◌+◌, ◌*◌, ◌≤◌, [], List, length, ⊤}
use Rattle.flat_circuit.specs.declared.case.CaseValue.{CaseValue}
use Rattle.flat_circuit.specs.Circuit.{Circuit}
use Rattle.narrowing.specs.declared.constraint.Constraint.{Constraint}
use Rattle.narrowing.specs.Constraint.{IsShowing}
use Rattle.narrowing.specs.Break.{IsBreakAt}
use Rattle.narrowing.specs.Named.{last_of}
use Rattle.narrowing.specs.declared.part.Part.{Part}
use Rattle.narrowing.specs.Leaf.{NeverBreaksIn}
use Rattle.narrowing.specs.Tree.{Refutes, Tree, leaves}
use Rattle.run_clauses.specs.Refuting.{NeverBreaksFrom}
use Rattle.trace_tool.specs.declared.extent.Extent.TheVariants.{Long}
use Rattle.trace_tool.specs.declared.trace.Trace.{Trace}
use Rattle.trace_tool.specs.Extent.{most_ticks}
use Rattle.trace_tool.specs.Judged.{run_in}
use Rattle.trace_tool.specs.Ran.{most_bits}
use Rattle.trace_tool.specs.Trace.{trace_text}
use Rattle.fault_decider.specs.declared.showing.Showing.{Showing}
use Rattle.fault_decider.specs.declared.verdict.Verdict.{Verdict}
use Rattle.fault_decider.specs.declared.verdict.Verdict.TheVariants.{Shown, Refuted, Window, Open}

-- The trace is a run of the case, whose inputs keep their assertions, and it breaks the constraint
-- at the ticks that are named, all of them from one on. It has as many ticks as that needs.
pub record ShowsBreak (c : Circuit) (values : List CaseValue) (x : Constraint) (from : ℕ)
    (s : Showing) : Type 0 where
  pub shows : IsShowing c values x from (run_in s.trace)
  pub at : IsBreakAt c (run_in s.trace) x from s.named
  pub ticks : s.trace.ticks ≡ last_of s.named + 1

-- the most bytes of a trace: with the 4,194,304 of the longest drawing they are the 16,777,216 that
-- `judge` reads
abbrev pub most_trace : ℕ
most_trace = 12582912

-- `judge` takes the trace, whatever drawing of the circuit stands after it.
pub record CanBeJudged (c : Circuit) (trace : Trace) : Type 0 where
  pub ticks : trace.ticks ≤ most_ticks Long
  pub bits : length c.nets * trace.ticks ≤ most_bits
  pub bytes : length (trace_text c trace) ≤ most_trace

-- It shows the break, and can be judged.
pub record IsShownBy (c : Circuit) (values : List CaseValue) (x : Constraint) (from : ℕ)
    (s : Showing) : Type 0 where
  pub shows : ShowsBreak c values x from s
  pub judged : CanBeJudged c s.trace

-- A tree of narrowings with these leaves refutes the constraint from the tick on, which is at least
-- the printed one; and so no run of the case breaks it from there on.
pub record IsRefutedBy (c : Circuit) (values : List CaseValue) (x : Constraint)
    (printed from : ℕ) (found : List (List Part)) : Type 0 where
  pub tree : Tree
  pub refutes : Refutes c values x tree printed from
  pub are : found ≡ leaves tree []
  pub never : NeverBreaksIn c values [] x from
  pub later : printed ≤ from

-- No run of the case breaks the constraint from the printed tick on.
pub record IsRefutedByClauses (c : Circuit) (values : List CaseValue) (x : Constraint)
    (printed from : ℕ) : Type 0 where
  pub never : NeverBreaksFrom c values x from
  pub same : from ≡ printed

-- what is said of a fault of the constraint in a case with this printed tick
abbrev pub IsVerdict : Circuit → List CaseValue → Constraint → ℕ → Verdict → Type 0
IsVerdict c values x printed (Shown s) = IsShownBy c values x printed s
IsVerdict c values x printed (Refuted from found) = IsRefutedBy c values x printed from found
IsVerdict c values x printed (Window from) = IsRefutedByClauses c values x printed from
IsVerdict c values x printed Open = ⊤
