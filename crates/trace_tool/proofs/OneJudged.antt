-- A text has one reply to `judge`.
use Rattle.std.proofs.Common.{◌≡◌, ℕ, List, refl, ap, subst, sym}
use Rattle.scald_base.specs.declared.refusal.Refusal.{Refusal}
use Rattle.flat_circuit.specs.declared.case.CaseValue.{CaseValue}
use Rattle.flat_circuit.specs.Circuit.{Circuit, IsCircuit}
use Rattle.listing.specs.Answer.{refusal_line}
use Rattle.timing_analysis.specs.Drawn.{DrawsCircuit, IsTextRefused}
use Rattle.timing_analysis.proofs.OneText.{not_refused, one_refusal, text_draws_one_circuit}
use Rattle.trace_tool.specs.declared.asked.Trial.{Trial}
use Rattle.trace_tool.specs.declared.trace.Trace.{Trace}
use Rattle.trace_tool.specs.Reading.{HasTrace}
use Rattle.trace_tool.proofs.OneText.{lines_say_trace}
use Rattle.trace_tool.specs.declared.outcome.TraceOutcome.{TraceOutcome}
use Rattle.trace_tool.specs.declared.outcome.TraceOutcome.TheVariants.{BadTrace, Refused}
use Rattle.trace_tool.specs.Judged as judged
use Rattle.trace_tool.specs.Judged.{Judged, JudgedOn, Verdict, run_in}
use Rattle.trace_tool.proofs.OneLines.{one_split, one_wrong, read_not_wrong}
use Rattle.trace_tool.proofs.OneVerdict.{one_verdict}

on_lines : (c : Circuit) (lines : List (List ℕ)) (trial : Trial) (o o' : TraceOutcome) (bytes bytes' : List ℕ) → IsCircuit c →
    JudgedOn c lines trial o bytes → JudgedOn c lines trial o' bytes' → (o ≡ o') × (bytes ≡ bytes')
on_lines c lines trial _ _ _ _ known (judged.wrong i w) (judged.wrong j v) =
    (ap (λ (n : ℕ). BadTrace n) (one_wrong trial.extent c lines i j w v), refl)
on_lines c lines trial _ _ _ _ known (judged.wrong i w) (judged.judged trace o bytes read v) = absurd (read_not_wrong trial.extent c lines trace i known read w)
on_lines c lines trial _ _ _ _ known (judged.judged trace o bytes read v) (judged.wrong i w) = absurd (read_not_wrong trial.extent c lines trace i known read w)
on_lines c lines trial _ _ _ _ known (judged.judged t o bytes read v) (judged.judged u o' bytes' read' v') =
    one_verdict c (run_in t) trial.from o o' bytes bytes' v
    (subst (λ (trace : Trace). Verdict c (run_in trace) trial.from o' bytes') (sym (lines_say_trace trial.extent c lines t u known read read')) v')

-- the same trace and drawing
both_ways : (trial : Trial) (lines : List (List ℕ)) (drawing : List ℕ) (r : Refusal) (c : Circuit) (cases : List (List CaseValue)) (others : List (List ℕ)) (more text : List ℕ) →
    HasTrace text lines drawing → HasTrace text others more → IsTextRefused drawing r → DrawsCircuit more c cases → ⊥
both_ways trial lines drawing r c cases others more text h g is draws =
    not_refused more r c cases (subst (λ (d : List ℕ). IsTextRefused d r) (one_split text lines others drawing more h g).1 is) draws

pub one_judged : (trial : Trial) (text : List ℕ) (o o' : TraceOutcome) (bytes bytes' : List ℕ) →
    Judged trial text o bytes → Judged trial text o' bytes' → (o ≡ o') × (bytes ≡ bytes')
one_judged trial text _ _ _ _ (judged.no_end none) (judged.no_end none') = (refl, refl)
one_judged trial text _ _ _ _ (judged.no_end none) (judged.refused lines drawing r h is) = absurd (none lines drawing h)
one_judged trial text _ _ _ _ (judged.no_end none) (judged.on_circuit lines drawing c cases o bytes h draws on) = absurd (none lines drawing h)
one_judged trial text _ _ _ _ (judged.refused lines drawing r h is) (judged.no_end none) = absurd (none lines drawing h)
one_judged trial text _ _ _ _ (judged.refused lines drawing r h is) (judged.refused others more q g is') =
    let same : q ≡ r = one_refusal drawing q r (subst (λ (d : List ℕ). IsTextRefused d q) (one_split text others lines more drawing g h).1 is') is in
    (ap (λ (p : Refusal). Refused p) (sym same), ap refusal_line (sym same))
one_judged trial text _ _ _ _ (judged.refused lines drawing r h is) (judged.on_circuit others more c cases o bytes g draws on) =
    absurd (both_ways trial lines drawing r c cases others more text h g is draws)
one_judged trial text _ _ _ _ (judged.on_circuit lines drawing c cases o bytes h draws on) (judged.no_end none) = absurd (none lines drawing h)
one_judged trial text _ _ _ _ (judged.on_circuit lines drawing c cases o bytes h draws on) (judged.refused others more r g is) =
    absurd (both_ways trial others more r c cases lines drawing text g h is draws)
one_judged trial text _ _ _ _ (judged.on_circuit lines drawing c cases o bytes h draws on) (judged.on_circuit others more c' cases' o' bytes' g draws' on') =
    let split = one_split text others lines more drawing g h in
    let one = text_draws_one_circuit drawing c' c cases' cases (subst (λ (d : List ℕ). DrawsCircuit d c' cases') split.1 draws') draws in
    on_lines c lines trial o o' bytes bytes' draws.draws.is_circuit on
    (subst (λ (ls : List (List ℕ)). JudgedOn c ls trial o' bytes') split.0
    (subst (λ (z : Circuit). JudgedOn z others trial o' bytes') one.0 on'))
