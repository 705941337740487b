-- The beginning and the end of an answer.
use Rattle.std.specs.Prelude.{◌==◌, ◌&&◌, codes, decimal, if◌then◌else◌}
use Rattle.std.proofs.Common.{◌≡◌, ℕ, ◌+◌, true, false, true≢false, List, [], ◌∷◌, ◌++◌, length, None, Some, refl, sym, ap, subst, ◌∙◌, arith}
use Rattle.std.specs.List.{All, sum_by}
use Rattle.std.proofs.lemmas.Bool.{eqb-true}
use Rattle.flat_circuit.specs.Circuit.{Circuit}
use Rattle.timing_analysis.specs.Case.{Case}
use Rattle.timing_analysis.specs.Promise.{IsKept}
use Rattle.listing.specs.Head.{head}
use Rattle.listing.specs.Text.{line}
use Rattle.fault_decider.specs.declared.answer.Answer.{Answer}
use Rattle.fault_decider.specs.declared.answer.Counts.{Counts}
use Rattle.fault_decider.specs.declared.outcome.DecideOutcome.{DecideOutcome}
use Rattle.fault_decider.specs.declared.outcome.DecideOutcome.TheVariants.{Settled, Faulty, Done, NoRun}
use Rattle.fault_decider.specs.declared.verdict.Verdict.{Verdict}
use Rattle.fault_decider.specs.Decided.{Concluded, IsTraced, done, end_line, no_run, outcome_of, refuted_one, reported, shown_one, traced}
use Rattle.fault_decider.specs.Reporting.{AreCounted, HasTrace, IsReport, IsSought, has_trace, no_trace}
use Rattle.fault_decider.proofs.Settling.{settled_is_unbroken}
use Rattle.fault_decider.proofs.Telling.{all_counted}

-- ---- the last line

abbrev pub counts_line : ℕ → ℕ → ℕ → ℕ → List ℕ
counts_line all shown refuted left_open =
    line (codes "FAULTS " ∷ decimal all ∷ codes " SHOWN " ∷ decimal shown
    ∷ codes " REFUTED " ∷ decimal refuted ∷ codes " OPEN " ∷ decimal left_open ∷ [])

abbrev pub all_of : Counts → ℕ
all_of counts = counts.shown + counts.refuted + counts.left_open

all_are : (counts : Counts) (vs : List Verdict) → AreCounted counts vs → all_of counts ≡ length vs
all_are counts vs are =
    let shown = are.shown in
    let refuted = are.refuted in
    let left_open = are.left_open in
    let all = all_counted vs in
    omega (arith, shown, refuted, left_open, all)

pub end_clean : (counts : Counts) (vs : List Verdict) → AreCounted counts vs →
    (all_of counts == 0) ≡ true → line (codes "CLEAN" ∷ []) ≡ end_line vs
end_clean counts [] are none = refl
end_clean counts (v ∷ vs) are none =
    let all = all_are counts (v ∷ vs) are in
    let zero = eqb-true (all_of counts) 0 none in
    absurd (omega (arith, all, zero))

pub end_counted : (counts : Counts) (vs : List Verdict) → AreCounted counts vs →
    (all_of counts == 0) ≡ false →
    counts_line (all_of counts) counts.shown counts.refuted counts.left_open ≡ end_line vs
end_counted counts [] are some =
    absurd (true≢false (sym (ap (λ (n : ℕ). n == 0) (all_are counts [] are)) ∙ some))
end_counted counts (v ∷ vs) are some =
    ap (λ (n : ℕ). counts_line n counts.shown counts.refuted counts.left_open) (all_are counts (v ∷ vs) are)
    ∙ ap (λ (n : ℕ). counts_line (length (v ∷ vs)) n counts.refuted counts.left_open) are.shown
    ∙ ap (λ (n : ℕ). counts_line (length (v ∷ vs)) (sum_by shown_one (v ∷ vs)) n counts.left_open)
    are.refuted
    ∙ ap
    (λ (n : ℕ).
    counts_line (length (v ∷ vs)) (sum_by shown_one (v ∷ vs)) (sum_by refuted_one (v ∷ vs)) n)
    are.left_open

pub outcome_counted : (counts : Counts) (vs : List Verdict) → AreCounted counts vs →
    (if counts.shown == 0 && counts.left_open == 0 then Settled else Faulty) ≡ outcome_of vs
outcome_counted counts vs are =
    ap (λ (n : ℕ). if n == 0 && counts.left_open == 0 then Settled else Faulty) are.shown
    ∙ ap (λ (n : ℕ). if sum_by shown_one vs == 0 && n == 0 then Settled else Faulty) are.left_open

-- ---- a report

module _ (version : ℕ) (c : Circuit) (base : ℕ) (cases : List Case) where
  pub concluded_report : (answer : Answer) (o : DecideOutcome) (bytes : List ℕ) →
      (is : IsReport version c base answer cases) → All (IsKept c base) cases →
      o ≡ outcome_of is.verdicts → bytes ≡ answer.bytes ++ end_line is.verdicts → Concluded version c base cases None o bytes
  concluded_report answer o bytes is kept outcome text =
      let whole : bytes ≡ head version c ++ is.lines ++ end_line is.verdicts =
      text ∙ ap (λ (t : List ℕ). t ++ end_line is.verdicts) is.text in
      subst (λ (p : DecideOutcome). Concluded version c base cases None p bytes) (sym outcome)
      (subst (λ (t : List ℕ). Concluded version c base cases None (outcome_of is.verdicts) t) (sym whole)
      (reported is.verdicts is.lines is.are
      (settled_is_unbroken c base cases is.verdicts is.lines is.are kept)))

  -- ---- a trace

  traced_is : (i : ℕ) (answer : Answer) → answer.is_traced ≡ true → HasTrace c base cases i answer →
      IsTraced c base cases i Done answer.bytes
  traced_is i answer is (no_trace none bytes) = absurd (true≢false (sym is ∙ none))
  traced_is i answer is (has_trace k f s numbered shown t bytes) =
      subst (IsTraced c base cases i Done) (sym bytes) (done k f s numbered shown)

  untraced_is : (i : ℕ) (answer : Answer) → answer.is_traced ≡ false → HasTrace c base cases i answer →
      IsTraced c base cases i NoRun answer.bytes
  untraced_is i answer none (no_trace t bytes) =
      subst (IsTraced c base cases i NoRun) (sym bytes) no_run
  untraced_is i answer none (has_trace k f s numbered shown t bytes) =
      absurd (true≢false (sym t ∙ none))

  pub concluded_done : (i : ℕ) (answer : Answer) (bytes : List ℕ) → bytes ≡ answer.bytes →
      answer.is_traced ≡ true → IsSought c base i answer cases →
      Concluded version c base cases (Some i) Done bytes
  concluded_done i answer bytes same is sought =
      subst (Concluded version c base cases (Some i) Done) (sym same)
      (traced i Done answer.bytes (traced_is i answer is sought.has))

  pub concluded_no_run : (i : ℕ) (answer : Answer) (bytes : List ℕ) → bytes ≡ answer.bytes →
      answer.is_traced ≡ false → IsSought c base i answer cases →
      Concluded version c base cases (Some i) NoRun bytes
  concluded_no_run i answer bytes same none sought =
      subst (Concluded version c base cases (Some i) NoRun) (sym same)
      (traced i NoRun answer.bytes (untraced_is i answer none sought.has))
