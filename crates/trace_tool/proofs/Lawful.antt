-- No reply of the simulator is an end of a call, and a text has one.
use Rattle.std.proofs.Common.{◌≡◌, ℕ, List, refl, Option, Some, None}
use Rattle.flat_circuit.specs.declared.case.CaseValue.{CaseValue}
use Rattle.flat_circuit.specs.Circuit.{Circuit}
use Rattle.flat_circuit.specs.Run.{Run as AnyRun}
use Rattle.trace_tool.specs.declared.asked.Trial.{Trial}
use Rattle.trace_tool.specs.declared.element.Element.{Element}
use Rattle.program_call.specs.Program.{IsLawful}
use Rattle.trace_tool.specs.declared.words.Command.{Command}
use Rattle.trace_tool.specs.declared.words.Command.TheVariants.{Run, Judge}
use Rattle.trace_tool.specs.declared.asked.Asked.{Asked}
use Rattle.trace_tool.specs.declared.outcome.TraceOutcome.{TraceOutcome}
use Rattle.trace_tool.specs.Outcome.{end_of}
use Rattle.trace_tool.specs.Ran as ran
use Rattle.trace_tool.specs.Ran.{Ran, RanIn, RanOn}
use Rattle.trace_tool.specs.Judged as judged
use Rattle.trace_tool.specs.Judged.{Judged, JudgedOn, Verdict, outcome_of}
use Rattle.trace_tool.specs.Simulator.{simulator}
use Rattle.trace_tool.proofs.OneRun.{one_ran}
use Rattle.trace_tool.proofs.OneJudged.{one_judged}

-- ---- replies to `run` and `vcd`

ran_in_speaks : (asked : Asked) (name : List ℕ) (c : Circuit) (values : List CaseValue) (o : TraceOutcome) (bytes : List ℕ) →
    RanIn asked name c values o bytes → end_of o ≡ None
ran_in_speaks asked name c values _ _ (ran.too_big more) = refl
ran_in_speaks asked name c values _ _ (ran.done trace few is) = refl

ran_on_speaks : (asked : Asked) (name : List ℕ) (c : Circuit) (cases : List (List CaseValue)) (o : TraceOutcome) (bytes : List ℕ) →
    RanOn asked name c cases o bytes → end_of o ≡ None
ran_on_speaks asked name c cases _ _ (ran.no_case k is past) = refl
ran_on_speaks asked name c cases _ _ (ran.in_case values o bytes found r) = ran_in_speaks asked name c values o bytes r

ran_speaks : (asked : Asked) (text : List ℕ) (o : TraceOutcome) (bytes : List ℕ) → Ran asked text o bytes → end_of o ≡ None
ran_speaks asked text _ _ (ran.refused r is) = refl
ran_speaks asked text _ _ (ran.on_circuit c cases o bytes draws on) = ran_on_speaks asked draws.drawing.name c cases o bytes on

-- ---- replies to `judge`

found_speaks : (found : Option (Element × ℕ)) → end_of (outcome_of found) ≡ None
found_speaks None = refl
found_speaks (Some found) = refl

verdict_speaks : (c : Circuit) (run : AnyRun) (from : ℕ) (o : TraceOutcome) (bytes : List ℕ) → Verdict c run from o bytes → end_of o ≡ None
verdict_speaks c run from _ _ (judged.no_run t net first) = refl
verdict_speaks c run from _ _ (judged.of_run stray found is strays breaks) = found_speaks found

judged_on_speaks : (c : Circuit) (lines : List (List ℕ)) (trial : Trial) (o : TraceOutcome) (bytes : List ℕ) → JudgedOn c lines trial o bytes → end_of o ≡ None
judged_on_speaks c lines trial _ _ (judged.wrong i is) = refl
judged_on_speaks c lines trial _ _ (judged.judged trace o bytes read v) = verdict_speaks c _ trial.from o bytes v

judged_speaks : (trial : Trial) (text : List ℕ) (o : TraceOutcome) (bytes : List ℕ) → Judged trial text o bytes → end_of o ≡ None
judged_speaks trial text _ _ (judged.no_end none) = refl
judged_speaks trial text _ _ (judged.refused lines drawing r h is) = refl
judged_speaks trial text _ _ (judged.on_circuit lines drawing c cases o bytes h draws on) = judged_on_speaks c lines trial o bytes on

-- ---- the program

speaks : (command : Command) (text : List ℕ) (o : TraceOutcome) (bytes : List ℕ) → simulator.Replied command text o bytes → end_of o ≡ None
speaks (Run asked) text o bytes r = ran_speaks asked text o bytes r
speaks (Judge trial) text o bytes r = judged_speaks trial text o bytes r

one_reply : (command : Command) (text : List ℕ) (o o' : TraceOutcome) (bytes bytes' : List ℕ) → simulator.Replied command text o bytes →
    simulator.Replied command text o' bytes' → (o ≡ o') × (bytes ≡ bytes')
one_reply (Run asked) text o o' bytes bytes' r r' = one_ran asked text o o' bytes bytes' r r'
one_reply (Judge trial) text o o' bytes bytes' r r' = one_judged trial text o o' bytes bytes' r r'

pub simulator_is_lawful : IsLawful simulator
simulator_is_lawful = record {
  ends = λ end. refl;
  replies = speaks;
  one = one_reply;
  same = λ o bytes. (refl, refl);
  unread = λ command text other o bytes none r. absurd (cc);
}
