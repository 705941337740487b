-- From what is found of a text, of its lines and of a trace to what is replied.
use Rattle.std.proofs.Common.{◌≡◌, ℕ, List, [], ◌++◌, Option, Some, None, IfOk, Ok, Err, ap, sym, subst, ◌∙◌, append_assoc}
use Rattle.std.specs.Prelude.{MatchOption}
use Rattle.scald_base.specs.declared.refusal.Refusal.{Refusal}
use Rattle.flat_circuit.specs.declared.case.CaseValue.{CaseValue}
use Rattle.flat_circuit.specs.Circuit.{Circuit}
use Rattle.flat_circuit.specs.Run.{IsRun, Run}
use Rattle.fixpoint_engine.specs.Interface.{MeetsInterface}
use Rattle.listing.specs.Answer.{refusal_line}
use Rattle.timing_analysis.specs.Drawn.{DrawsCircuit, IsTextRefused}
use Rattle.trace_tool.specs.declared.asked.Trial.{Trial}
use Rattle.trace_tool.specs.declared.element.Element.{Element}
use Rattle.trace_tool.specs.Break.{BreaksFirst, BreaksNever}
use Rattle.trace_tool.specs.Interface.{StraysFirst}
use Rattle.trace_sim.specs.Failure.{FailsFirst}
use Rattle.trace_tool.specs.declared.trace.Trace.{Trace}
use Rattle.trace_tool.specs.Reading.{HasNoTrace, HasTrace, IsReadAs, IsWrongLine}
use Rattle.trace_tool.specs.declared.outcome.TraceOutcome.{TraceOutcome}
use Rattle.trace_tool.specs.declared.outcome.TraceOutcome.TheVariants.{BadTrace, NotRun, Refused}
use Rattle.trace_tool.specs.Judged as judged
use Rattle.trace_tool.specs.Judged.{IsBreak, IsStray, Judged, JudgedOn, Verdict, break_line, inputs_line, not_a_run_line, outcome_of, run_in, run_line}
use Rattle.trace_tool.proofs.Made.{Gives, Made}

-- ---- replies

pub no_end_reply : (trial : Trial) (text : List ℕ) (o : TraceOutcome) (bytes : List ℕ) → HasNoTrace text → o ≡ BadTrace 0 → bytes ≡ [] → Judged trial text o bytes
no_end_reply trial text o bytes none outcome silent =
    subst (λ (p : TraceOutcome). Judged trial text p bytes) (sym outcome) (subst (Judged trial text (BadTrace 0)) (sym silent) (judged.no_end none))

pub unread_reply : (trial : Trial) (text : List ℕ) (lines : List (List ℕ)) (drawing : List ℕ) (r : Refusal) (made : Made) → HasTrace text lines drawing →
    IsTextRefused drawing r → IfOk made (λ reply. reply.outcome ≡ Refused r) → IfOk made (λ reply. reply.bytes ≡ refusal_line r) → Gives made (Judged trial text)
unread_reply trial text lines drawing r (Ok reply) h is outcome bytes =
    subst (λ (o : TraceOutcome). Judged trial text o reply.bytes) (sym outcome)
    (subst (Judged trial text (Refused r)) (sym bytes) (judged.refused lines drawing r h is))
unread_reply trial text lines drawing r (Err e) h is outcome bytes = tt

pub on_circuit_reply : (trial : Trial) (text : List ℕ) (lines : List (List ℕ)) (drawing : List ℕ) (c : Circuit) (cases : List (List CaseValue)) (made : Made) →
    HasTrace text lines drawing → DrawsCircuit drawing c cases → Gives made (JudgedOn c lines trial) → Gives made (Judged trial text)
on_circuit_reply trial text lines drawing c cases (Ok reply) h draws on = judged.on_circuit lines drawing c cases reply.outcome reply.bytes h draws on
on_circuit_reply trial text lines drawing c cases (Err e) h draws on = tt

pub wrong_reply : (c : Circuit) (lines : List (List ℕ)) (trial : Trial) (i : ℕ) (o : TraceOutcome) (bytes : List ℕ) → IsWrongLine trial.extent c lines i → o ≡ BadTrace i → bytes ≡ [] →
    JudgedOn c lines trial o bytes
wrong_reply c lines trial i o bytes wrong outcome silent =
    subst (λ (p : TraceOutcome). JudgedOn c lines trial p bytes) (sym outcome) (subst (JudgedOn c lines trial (BadTrace i)) (sym silent) (judged.wrong i wrong))

pub judged_reply : (c : Circuit) (lines : List (List ℕ)) (trial : Trial) (trace : Trace) (made : Made) → IsReadAs trial.extent c lines trace →
    Gives made (Verdict c (run_in trace) trial.from) → Gives made (JudgedOn c lines trial)
judged_reply c lines trial trace (Ok reply) read v = judged.judged trace reply.outcome reply.bytes read v
judged_reply c lines trial trace (Err e) read v = tt

pub stray_of : (c : Circuit) (run : Run) (stray : Option ℕ) → MatchOption stray (MeetsInterface c run) (StraysFirst c run) → IsStray c run stray
stray_of c run None keeps = keeps
stray_of c run (Some place) first = first

pub break_of : (c : Circuit) (run : Run) (from : ℕ) (found : Option (Element × ℕ)) →
    MatchOption found (BreaksNever c run from) (λ b. BreaksFirst c run from b.1 b.0) → IsBreak c run from found
break_of c run from None never = never
break_of c run from (Some found) first = first

-- bytes that three calls wrote
pub three_parts : (none one two three xs ys zs : List ℕ) → three ≡ two ++ zs → two ≡ one ++ ys → one ≡ none ++ xs → none ≡ [] →
    three ≡ xs ++ (ys ++ zs)
three_parts none one two three xs ys zs third second first empty =
    third ∙ ap (λ (l : List ℕ). l ++ zs) (second ∙ ap (λ (l : List ℕ). l ++ ys) (first ∙ ap (λ (l : List ℕ). l ++ xs) empty))
    ∙ append_assoc xs ys zs

pub of_run_reply : (c : Circuit) (run : Run) (from : ℕ) (stray : Option ℕ) (found : Option (Element × ℕ)) (o : TraceOutcome) (bytes : List ℕ) → IsRun c run →
    IsStray c run stray → IsBreak c run from found → o ≡ outcome_of found → bytes ≡ run_line ++ (inputs_line c stray ++ break_line c found) →
    Verdict c run from o bytes
of_run_reply c run from stray found o bytes is strays breaks outcome text =
    subst (λ (p : TraceOutcome). Verdict c run from p bytes) (sym outcome)
    (subst (Verdict c run from (outcome_of found)) (sym text) (judged.of_run stray found is strays breaks))

pub no_run_reply : (c : Circuit) (run : Run) (from t net : ℕ) (bytes : List ℕ) → FailsFirst c run t net → bytes ≡ not_a_run_line c t net →
    Verdict c run from NotRun bytes
no_run_reply c run from t net bytes first text = subst (Verdict c run from NotRun) (sym text) (judged.no_run t net first)
