-- A run that is judged shows a fault.
use Rattle.std.proofs.Common.{◌≡◌, ℕ, ◌+◌, List, length}
use Rattle.flat_circuit.specs.declared.case.CaseValue.{CaseValue}
use Rattle.flat_circuit.specs.Circuit.{Circuit}
use Rattle.flat_circuit.specs.Run.{Choice as Chosen, IsRun}
use Rattle.fixpoint_engine.specs.Interface.{MeetsInterface}
use Rattle.case_analysis.specs.Case.{IsInCase}
use Rattle.trace_sim.specs.declared.choice.Choice.{Choice}
use Rattle.trace_sim.specs.Choice.{AreTraces, Bits, choices_of}
use Rattle.trace_sim.specs.Simulated.{run_of}
use Rattle.narrowing.specs.declared.constraint.Constraint.{Constraint}
use Rattle.narrowing.specs.declared.named.Named.{Named}
use Rattle.narrowing.specs.Named.{last_of}
use Rattle.narrowing.specs.Break.{IsBreakAt}
use Rattle.fault_decider.specs.Verdict.{ShowsBreak}
use Rattle.fault_decider.specs.Showing.{showing_of}
use Rattle.narrowing.proofs.AtTicks.{breaks_at}

-- the bits of a run are rows of as many ticks
pub run_traces : (c : Circuit) (choices : List Chosen) (ticks : ℕ) (bits : Bits) → IsRun c (run_of ticks choices bits) →
    AreTraces (length c.nets) ticks bits
run_traces c choices ticks bits is = record { rows = is.nets; long = is.long }

pub run_shows : (c : Circuit) (values : List CaseValue) (x : Constraint) (from : ℕ) (choice : Choice) (ticks : ℕ)
    (bits : Bits) (named : Named) → IsRun c (run_of ticks (choices_of choice) bits) →
    MeetsInterface c (run_of ticks (choices_of choice) bits) →
    IsInCase values (run_of ticks (choices_of choice) bits) →
    IsBreakAt c (run_of ticks (choices_of choice) bits) x from named → ticks ≡ last_of named + 1 →
    ShowsBreak c values x from (showing_of choice ticks bits named)
run_shows c values x from choice ticks bits named is meets in_case at long = record {
  shows = record {
    is_run = is;
    meets = meets;
    in_case = in_case;
    breaks = breaks_at c (run_of ticks (choices_of choice) bits) x from named at;
  };
  at = at;
  ticks = long;
}
