-- A run has one verdict.
use Rattle.std.proofs.Common.{◌≡◌, ℕ, List, ◌++◌, Option, Some, None, refl, ap, ◌∙◌}
use Rattle.flat_circuit.specs.Circuit.{Circuit}
use Rattle.flat_circuit.specs.Run.{IsRun, Run}
use Rattle.trace_sim.specs.Failure.{FailsFirst}
use Rattle.trace_sim.proofs.Failing.{not_obeyed, one_failure}
use Rattle.trace_tool.specs.declared.element.Element.{Element}
use Rattle.trace_tool.proofs.One as one
use Rattle.trace_tool.proofs.One.{not_met, not_unbroken, one_break}
use Rattle.trace_tool.specs.declared.outcome.TraceOutcome.{TraceOutcome}
use Rattle.trace_tool.specs.Judged as judged
use Rattle.trace_tool.specs.Judged.{IsBreak, IsStray, Verdict, break_line, inputs_line, not_a_run_line, outcome_of, run_line}

-- nothing fails in a run
no_failure : (c : Circuit) (run : Run) (t net : ℕ) → IsRun c run → FailsFirst c run t net → ⊥
no_failure c run t net is first = not_obeyed c run t net first (λ k i choice here chosen. (is.at k i choice here chosen).obeys)

one_stray : (c : Circuit) (run : Run) (a b : Option ℕ) → IsStray c run a → IsStray c run b → a ≡ b
one_stray c run None None keeps other = refl
one_stray c run None (Some q) keeps first = absurd (not_met c run q first keeps)
one_stray c run (Some p) None first keeps = absurd (not_met c run p first keeps)
one_stray c run (Some p) (Some q) first other = ap (λ (n : ℕ). Some n) (one.one_stray c run p q first other)

one_found : (c : Circuit) (run : Run) (from : ℕ) (a b : Option (Element × ℕ)) → IsBreak c run from a → IsBreak c run from b → a ≡ b
one_found c run from None None never other = refl
one_found c run from None (Some (o, end)) never first = absurd (not_unbroken c run from end o first never)
one_found c run from (Some (e, last)) None first never = absurd (not_unbroken c run from last e first never)
one_found c run from (Some (e, last)) (Some (o, end)) first other =
    let same = one_break c run from last end e o first other in
    ap (λ (x : Element). Some (x, last)) same.elements ∙ ap (λ (n : ℕ). Some (o, n)) same.ticks

pub one_verdict : (c : Circuit) (run : Run) (from : ℕ) (o o' : TraceOutcome) (bytes bytes' : List ℕ) →
    Verdict c run from o bytes → Verdict c run from o' bytes' → (o ≡ o') × (bytes ≡ bytes')
one_verdict c run from _ _ _ _ (judged.no_run t net first) (judged.no_run u other first') =
    let same = one_failure c run t u net other first first' in
    (refl, ap (λ (n : ℕ). not_a_run_line c n net) same.ticks ∙ ap (not_a_run_line c u) same.nets)
one_verdict c run from _ _ _ _ (judged.no_run t net first) (judged.of_run stray found is strays breaks) = absurd (no_failure c run t net is first)
one_verdict c run from _ _ _ _ (judged.of_run stray found is strays breaks) (judged.no_run t net first) = absurd (no_failure c run t net is first)
one_verdict c run from _ _ _ _ (judged.of_run stray found is strays breaks) (judged.of_run stray' found' is' strays' breaks') =
    let inputs = one_stray c run stray stray' strays strays' in
    let same = one_found c run from found found' breaks breaks' in (
      ap outcome_of same,
      ap (λ (s : Option ℕ). run_line ++ (inputs_line c s ++ break_line c found)) inputs
          ∙ ap (λ (b : Option (Element × ℕ)). run_line ++ (inputs_line c stray' ++ break_line c b)) same,
    )
