-- What `judge` replies to a text: whether a trace is a run of the circuit that the text draws,
-- whether its inputs keep their assertions, and what breaks in it first; or why that is not said.
use Rattle.std.specs.Prelude.{ℕ, List, [], ◌∷◌, ◌++◌, codes, decimal, Option, Some, None}
use Rattle.scald_base.specs.declared.refusal.Refusal.{Refusal}
use Rattle.flat_circuit.specs.declared.case.CaseValue.{CaseValue}
use Rattle.flat_circuit.specs.Name.{net_at}
use Rattle.flat_circuit.specs.Circuit.{Circuit}
use Rattle.flat_circuit.specs.Run.{IsRun, Run}
use Rattle.fixpoint_engine.specs.Interface.{MeetsInterface}
use Rattle.listing.specs.Answer.{refusal_line}
use Rattle.listing.specs.Names.{instance_text, net_text}
use Rattle.listing.specs.Text.{line}
use Rattle.timing_analysis.specs.Drawn.{DrawsCircuit, IsTextRefused}
use Rattle.trace_sim.specs.Choice.{all_chosen}
use Rattle.trace_sim.specs.Failure.{FailsFirst}
use Rattle.trace_sim.specs.Simulated.{run_of}
use Rattle.trace_tool.specs.declared.asked.Trial.{Trial}
use Rattle.trace_tool.specs.declared.trace.Trace.{Trace}
use Rattle.trace_tool.specs.Reading.{HasNoTrace, HasTrace, IsReadAs, IsWrongLine}
use Rattle.trace_tool.specs.declared.element.Element.{Element}
use Rattle.trace_tool.specs.declared.element.Element.TheVariants.{Instance as OfInstance, Net as OfNet}
use Rattle.trace_tool.specs.Break.{BreaksFirst, BreaksNever}
use Rattle.trace_tool.specs.Interface.{StraysFirst}
use Rattle.trace_tool.specs.declared.outcome.TraceOutcome.{TraceOutcome}
use Rattle.trace_tool.specs.declared.outcome.TraceOutcome.TheVariants.{BadTrace, Broken, Done, NotRun, Refused}

-- what a trace says as a run
abbrev pub run_in : Trace → Run
run_in trace = run_of trace.ticks (all_chosen trace.delays trace.wires) trace.bits

-- ---- lines

abbrev pub not_a_run_line : Circuit → ℕ → ℕ → List ℕ
not_a_run_line c t net =
    line (codes "NOT A RUN TICK " ∷ decimal t ∷ codes " " ∷ net_text c net ∷ [])

abbrev pub run_line : List ℕ
run_line = line (codes "RUN" ∷ [])

-- whether the inputs keep their assertions, or the first that does not, by its place in name order
abbrev pub inputs_line : Circuit → Option ℕ → List ℕ
inputs_line c None = line (codes "INTERFACE" ∷ [])
inputs_line c (Some place) = line (codes "INTERFACE NO " ∷ net_text c (net_at c.order place) ∷ [])

abbrev pub element_text : Circuit → Element → List ℕ
element_text c (OfInstance k) = instance_text c k
element_text c (OfNet place) = net_text c (net_at c.order place)

-- what breaks first, with the greatest tick that it names, if anything does
abbrev pub break_line : Circuit → Option (Element × ℕ) → List ℕ
break_line c None = line (codes "NO BREAK" ∷ [])
break_line c (Some (e, last)) =
    line (codes "BREAK " ∷ element_text c e ∷ codes " TICK " ∷ decimal last ∷ [])

-- ---- the verdict

-- on the inputs
abbrev pub IsStray : Circuit → Run → Option ℕ → Type 0
IsStray c run None = MeetsInterface c run
IsStray c run (Some place) = StraysFirst c run place

-- on breaks, which are looked for from a tick on
abbrev pub IsBreak : Circuit → Run → ℕ → Option (Element × ℕ) → Type 0
IsBreak c run from None = BreaksNever c run from
IsBreak c run from (Some (e, last)) = BreaksFirst c run from last e

abbrev pub outcome_of : Option (Element × ℕ) → TraceOutcome
outcome_of None = Done
outcome_of (Some found) = Broken

-- on bits that are no run, or on a run
pub data Verdict (c : Circuit) (run : Run) (from : ℕ) : TraceOutcome → List ℕ → Type 0 where
  no_run : (t net : ℕ) → FailsFirst c run t net → Verdict c run from NotRun (not_a_run_line c t net)
  of_run : (stray : Option ℕ) (found : Option (Element × ℕ)) → IsRun c run → IsStray c run stray →
      IsBreak c run from found →
      Verdict c run from (outcome_of found) (run_line
      ++ (inputs_line c stray ++ break_line c found))

-- ---- the reply

-- To the lines of a trace, and the circuit of the drawing that follows them.
pub data JudgedOn (c : Circuit) (lines : List (List ℕ)) (trial : Trial) : TraceOutcome → List ℕ →
    Type 0 where
  wrong : (i : ℕ) → IsWrongLine trial.extent c lines i → JudgedOn c lines trial (BadTrace i) []
  judged : (trace : Trace) (o : TraceOutcome) (bytes : List ℕ) → IsReadAs trial.extent c lines trace →
      Verdict c (run_in trace) trial.from o bytes → JudgedOn c lines trial o bytes

-- To a text: that no line ends the trace comes first, then why the drawing is refused.
pub data Judged (trial : Trial) (text : List ℕ) : TraceOutcome → List ℕ → Type 0 where
  no_end : HasNoTrace text → Judged trial text (BadTrace 0) []
  refused : (lines : List (List ℕ)) (drawing : List ℕ) (r : Refusal) → HasTrace text lines drawing →
      IsTextRefused drawing r → Judged trial text (Refused r) (refusal_line r)
  on_circuit : (lines : List (List ℕ)) (drawing : List ℕ) (c : Circuit)
      (cases : List (List CaseValue))
      (o : TraceOutcome) (bytes : List ℕ) → HasTrace text lines drawing →
      DrawsCircuit drawing c cases →
      JudgedOn c lines trial o bytes → Judged trial text o bytes
