-- What `run` and `vcd` reply to a text: a run that is drawn of its circuit, as a trace or as a
-- value change dump; or why there is none.
use Rattle.std.specs.Prelude.{◌≡◌, ℕ, ◌-◌, ◌*◌, ◌<◌, ◌≤◌, List, [], length, slice_get, Option, Some, None}
use Rattle.scald_base.specs.declared.refusal.Refusal.{Refusal}
use Rattle.flat_circuit.specs.declared.case.CaseValue.{CaseValue}
use Rattle.flat_circuit.specs.Circuit.{Circuit}
use Rattle.flat_circuit.specs.Run.{IsRun, Run}
use Rattle.fixpoint_engine.specs.Interface.{MeetsInterface}
use Rattle.case_analysis.specs.Case.{IsInCase}
use Rattle.listing.specs.Answer.{refusal_line}
use Rattle.timing_analysis.specs.Drawn.{DrawsCircuit, IsTextRefused}
use Rattle.trace_sim.specs.declared.choice.Choice.{Choice}
use Rattle.trace_sim.specs.Choice.{ChoiceFits, choices_of}
use Rattle.trace_sim.specs.Simulated.{IsSimulated}
use Rattle.trace_sim.specs.Input.{IsDrawn}
use Rattle.trace_tool.specs.declared.trace.Trace.{Trace}
use Rattle.trace_tool.specs.Trace.{trace_text}
use Rattle.trace_tool.specs.declared.asked.Asked.{Asked}
use Rattle.trace_tool.specs.declared.asked.Format.{Format}
use Rattle.trace_tool.specs.declared.asked.Format.TheVariants as format
use Rattle.trace_tool.specs.Dump.{dump_text}
use Rattle.trace_tool.specs.declared.outcome.TraceOutcome.{TraceOutcome}
use Rattle.trace_tool.specs.declared.outcome.TraceOutcome.TheVariants.{Done, NoCase, Refused, TooBig}

-- the most bits of a trace that is written
abbrev pub most_bits : ℕ
most_bits = 4000000

-- ---- the case

-- what the case that is asked for sets, by its number from 1; case 0, if none is asked for, sets
-- nothing
abbrev pub case_asked : Option ℕ → List (List CaseValue) → Option (List CaseValue)
case_asked None cases = Some []
case_asked (Some k) cases = slice_get cases (k - 1)

-- ---- the run

-- The run of the choice that a seed draws in a case: a run of the circuit whose inputs keep their
-- assertions, and in the case.
pub record IsDrawnRun (c : Circuit) (values : List CaseValue) (ticks seed : ℕ) (choice : Choice)
    (run : Run) : Type 0 where
  pub drawn : IsDrawn c values ticks seed choice
  pub fits : ChoiceFits c choice ticks
  pub long : run.ticks ≡ ticks
  pub choices : run.choices ≡ choices_of choice
  pub made : IsSimulated c choice ticks run.bits
  pub is_run : IsRun c run
  pub meets : MeetsInterface c run
  pub in_case : IsInCase values run

-- the trace says this of the run
pub record IsTraceOf (choice : Choice) (run : Run) (trace : Trace) : Type 0 where
  pub ticks : trace.ticks ≡ run.ticks
  pub delays : trace.delays ≡ choice.delays
  pub wires : trace.wires ≡ choice.wires
  pub bits : trace.bits ≡ run.bits

-- it is the trace of the run that a seed draws in a case
pub record IsTraced (c : Circuit) (values : List CaseValue) (ticks seed : ℕ)
    (trace : Trace) : Type 0 where
  pub choice : Choice
  pub run : Run
  pub is_run : IsDrawnRun c values ticks seed choice run
  pub says : IsTraceOf choice run trace

-- ---- the reply

-- the trace as it is asked for, of a drawing of this name
abbrev pub written : Format → List ℕ → Circuit → Trace → List ℕ
written format.Trace name c trace = trace_text c trace
written (format.Dump tick) name c trace = dump_text tick name c trace.bits trace.ticks

-- In a case: there would be too many bits, or the trace is written.
pub data RanIn (asked : Asked) (name : List ℕ) (c : Circuit) (values : List CaseValue) :
    TraceOutcome → List ℕ → Type 0 where
  too_big : most_bits < length c.nets * asked.ticks → RanIn asked name c values TooBig []
  done : (trace : Trace) → length c.nets * asked.ticks ≤ most_bits →
      IsTraced c values asked.ticks asked.seed trace →
      RanIn asked name c values Done (written asked.format name c trace)

-- To a circuit and the cases that are listed of it: there is no such case, and there are so many;
-- or it is replied in the case.
pub data RanOn (asked : Asked) (name : List ℕ) (c : Circuit) (cases : List (List CaseValue)) :
    TraceOutcome → List ℕ → Type 0 where
  no_case : (k : ℕ) → asked.case ≡ Some k → length cases < k →
      RanOn asked name c cases (NoCase (length cases)) []
  in_case : (values : List CaseValue) (o : TraceOutcome) (bytes : List ℕ) →
      case_asked asked.case cases ≡ Some values →
      RanIn asked name c values o bytes → RanOn asked name c cases o bytes

-- the text draws this circuit with these cases, by a drawing of this name
pub record IsNamed (text name : List ℕ) (c : Circuit) (cases : List (List CaseValue)) :
    Type 0 where
  pub draws : DrawsCircuit text c cases
  pub is : draws.drawing.name ≡ name

-- To a text: why it is refused comes first. The name is that of the drawing that it draws.
pub data Ran (asked : Asked) (text : List ℕ) : TraceOutcome → List ℕ → Type 0 where
  refused : (r : Refusal) → IsTextRefused text r → Ran asked text (Refused r) (refusal_line r)
  on_circuit : (c : Circuit) (cases : List (List CaseValue)) (o : TraceOutcome) (bytes : List ℕ)
      (draws : DrawsCircuit text c cases) →
      RanOn asked draws.drawing.name c cases o bytes → Ran asked text o bytes
