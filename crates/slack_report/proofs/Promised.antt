-- What the answer to a text says of the outcome of the call.
use Rattle.std.proofs.Common.{◌≡◌, ◌∙◌, ◌⊎◌, inl, inr, ℕ, ◌+◌, Bool, true, false, cond, List, [], ◌∷◌, length, refl, sym, ap, subst, arith, IfOk, IfSome, Option, Some, None, Result, Ok, Err}
use Rattle.std.specs.Prelude.{◌==◌, if◌then◌else◌, not}
use Rattle.std.proofs.lemmas.Bool.{eqb-true}
use Rattle.std.proofs.lemmas.List.Sums.{sum_by-cons}
use Rattle.scald_base.specs.declared.outcome.Outcome.{Outcome}
use Rattle.scald_base.specs.declared.outcome.Outcome.TheVariants.{Clean, Done, Faulty, NoMemory, Refused, Unsettled, BadWords, TooLong, ReadFault, WriteFault}
use Rattle.scald_base.specs.declared.list.NoMemory.{NoMemory as OutOfMemory}
use Rattle.drawing_tree.specs.Tree.{Drawing}
use Rattle.flat_circuit.specs.declared.case.CaseValue.{CaseValue}
use Rattle.flat_circuit.specs.Circuit.{Circuit}
use Rattle.listing.specs.Answer.{refusal_line, unsettled_line}
use Rattle.timing_analysis.specs.Case.{Case as Settled, fault_count, faults, faults_of, listed_cases}
use Rattle.timing_analysis.specs.Drawn.{DrawsCircuit}
use Rattle.timing_analysis.specs.Promise.{FaultlessNeverBreaks, IsKept, IsSafe, NeverBreaks}
use Rattle.timing_analysis.proofs.Headline.{faultless_is_safe}
use Rattle.timing_analysis.proofs.OneText.{text_draws_one_circuit}
use Rattle.timing_analysis.proofs.SettlesOneWay.{settles_in_one_way}
use Rattle.slack_rows.specs.Limit.{Case}
use Rattle.slack_rows.specs.Known.{are_sure}
use Rattle.slack_rows.specs.Rows.{broken_count, some_broken}
use Rattle.program_call.specs.declared.reply.Reply.{Reply}
use Rattle.program_call.specs.Answer as answer
use Rattle.program_call.specs.Answer.{Concluded, Evaluated, Reporting, is_finished, limit_for, verdict_of}
use Rattle.program_call.specs.Promise.{SettlesLoopless, TextSettles, may_count}
use Rattle.program_call.specs.Program.{Answer, no_form, too_long, replied, by_source, IsAnswered, IsReplied, speaks}
use Rattle.program_call.proofs.Answering.{told_all}
use Rattle.program_call.proofs.Judgement.{IsOne, one_evaluated}
use Rattle.program_call.proofs.Outcomes.{evaluated_has, evaluated_settles, settled_evaluated, verdict_counts, verdict_settles}
use Rattle.slack_report.specs.declared.request.Part.{Part}
use Rattle.slack_report.specs.declared.request.Request.{Request}
use Rattle.slack_report.specs.Answer.{AreSlacks, AreSlacksOf, case_of, cases_of, fault_total, slack_program, slacks_of}
use Rattle.slack_report.specs.Promise.{EndsByLimits, IsVerdict, NeverBreaksIfMet, SettlesUnlimited}
use Rattle.slack_report.proofs.Lawful.{slack_program_lawful}

pub is_given : (request : Request) (text : List ℕ) (o : Outcome) (bytes : List ℕ) →
    Evaluated (slacks_of request.part) request.rounds text o bytes → may_count o ≡ true
is_given request text o bytes =
    evaluated_has (λ p. may_count p ≡ true) (λ place last. refl) (λ r. refl)
    (slacks_of request.part) request.rounds text o bytes
    (λ d c base cases p bs is. ap may_count is.outcome ∙ verdict_counts is.broken)

-- ---- faults

totals : (c : Circuit) (cases : List Settled) → fault_total c (cases_of cases) ≡ fault_count c cases
totals c [] = refl
totals c (case ∷ cases) =
    sum_by-cons (λ (one : Case). length (faults_of c one.waves)) (case_of case) (cases_of cases)
    ∙ ap (λ (n : ℕ). length (faults c case) + n) (totals c cases)
    ∙ sym (sum_by-cons (λ (one : Settled). length (faults c one)) case cases)

-- ---- of a text that settles

-- what is reported as these cases have it
abbrev of_cases : (Circuit → List Case → Outcome) → Drawing → Reporting
of_cases f d c base cases o bytes = (o ≡ f c (cases_of cases)) × (bytes ≡ [])

cases_are_one : (f : Circuit → List Case → Outcome) → IsOne (of_cases f)
cases_are_one f d c base cases o o' bytes bytes' is is' = (is.0 ∙ sym is'.0, is.1 ∙ sym is'.1)

settled_by : (f : Circuit → List Case → Outcome) (rounds : Option ℕ) (text : List ℕ)
    (is : TextSettles rounds text) →
    Evaluated (of_cases f) rounds text (f is.circuit (cases_of is.cases)) []
settled_by f rounds text is =
    settled_evaluated (of_cases f) rounds text is (f is.circuit (cases_of is.cases)) [] (refl, refl)

-- The reply is one to these cases of a circuit, which are those of the text.
record IsOfText (part : Part) (rounds : Option ℕ) (text : List ℕ) (o : Outcome)
    (bytes : List ℕ) : Type 0 where
  circuit : Circuit
  cases : List Case
  are : AreSlacksOf part circuit cases o bytes
  by : (f : Circuit → List Case → Outcome) →
      Evaluated (of_cases f) rounds text (f circuit cases) []

-- the outcome where nothing is reported, which is none of a text that settles
abbrev clean : Circuit → List Case → Outcome
clean c cases = Clean

of_conclusion : (part : Part) (rounds : Option ℕ) (text : List ℕ) (c : Circuit)
    (values : List (List CaseValue)) (o : Outcome) (bytes : List ℕ)
    (draws : DrawsCircuit text c values) → TextSettles rounds text →
    Concluded (AreSlacks part) c values (limit_for c rounds) o bytes →
    IsOfText part rounds text o bytes
of_conclusion part rounds text c values _ _ draws settles
    (answer.settled base cases o bytes rests are_settled is) = record {
      circuit = c;
      cases = cases_of cases;
      are = is;
      by = λ f. answer.judged c values (f c (cases_of cases)) [] draws
          (answer.settled base cases (f c (cases_of cases)) [] rests are_settled (refl, refl));
    }
of_conclusion part rounds text c values _ _ draws settles (answer.unsettled place stops) =
    let limit = limit_for c rounds in
    let same : Unsettled place limit ≡ Clean = (one_evaluated (of_cases clean) (cases_are_one clean)
    rounds text (Unsettled place limit) Clean (unsettled_line c place limit) []
    (answer.judged c values (Unsettled place limit) (unsettled_line c place limit) draws
    (answer.unsettled place stops)) (settled_by clean rounds text settles)).0 in
    absurd (cc same)

is_of_text : (part : Part) (rounds : Option ℕ) (text : List ℕ) (o : Outcome) (bytes : List ℕ) →
    TextSettles rounds text → Evaluated (slacks_of part) rounds text o bytes →
    IsOfText part rounds text o bytes
is_of_text part rounds text _ _ settles (answer.refused r is) =
    let same : Refused r ≡ Clean = (one_evaluated (of_cases clean) (cases_are_one clean) rounds text
    (Refused r) Clean (refusal_line r) [] (answer.refused r is)
    (settled_by clean rounds text settles)).0 in
    absurd (cc same)
is_of_text part rounds text _ _ settles (answer.judged c values o bytes draws concluded) =
    of_conclusion part rounds text c values o bytes draws settles concluded

-- what is told by all cases of a circuit is told by those of the text
same_by : (f : Circuit → List Case → Outcome) (part : Part) (rounds : Option ℕ) (text : List ℕ)
    (o : Outcome) (bytes : List ℕ) (is : TextSettles rounds text)
    (told : IsOfText part rounds text o bytes) →
    f told.circuit told.cases ≡ f is.circuit (cases_of is.cases)
same_by f part rounds text o bytes is told =
    (one_evaluated (of_cases f) (cases_are_one f) rounds text _ _ [] [] (told.by f)
    (settled_by f rounds text is)).0

-- a number as an outcome
same_number : (a b : ℕ) → Faulty a ≡ Faulty b → a ≡ b
same_number a b is = ap number is
  where
    number : Outcome → ℕ
    number Clean = 0
    number (Faulty n) = n
    number Done = 0
    number (Refused r) = 0
    number (Unsettled place round) = 0
    number (BadWords i) = 0
    number TooLong = 0
    number ReadFault = 0
    number WriteFault = 0
    number NoMemory = 0

-- a test as an outcome
abbrev test_of : Bool → Outcome
test_of holds = if holds then Clean else Done

same_test : (a b : Bool) → test_of a ≡ test_of b → a ≡ b
same_test true true is = refl
same_test true false is = absurd (cc)
same_test false true is = absurd (cc)
same_test false false is = refl

-- What is counted of all cases of a circuit is counted of those of the text, and a test of them is
-- one of those.
module _ (part : Part) (rounds : Option ℕ) (text : List ℕ) (o : Outcome) (bytes : List ℕ)
    (is : TextSettles rounds text) (told : IsOfText part rounds text o bytes) where
  tests_same : (test : Circuit → List Case → Bool) →
      test told.circuit told.cases ≡ test is.circuit (cases_of is.cases)
  tests_same test =
      same_test (test told.circuit told.cases) (test is.circuit (cases_of is.cases))
      (same_by (λ c cases. test_of (test c cases)) part rounds text o bytes is told)

  counts_same : (count : Circuit → List Case → ℕ) →
      count told.circuit told.cases ≡ count is.circuit (cases_of is.cases)
  counts_same count =
      same_number (count told.circuit told.cases) (count is.circuit (cases_of is.cases))
      (same_by (λ c cases. Faulty (count c cases)) part rounds text o bytes is told)

  by_limits : IsVerdict is.circuit is.cases o
  by_limits = record {
    count = told.are.broken;
    outcome = told.are.outcome;
    none = told.are.are_broken.none ∙ ap not (tests_same some_broken);
    faultless =
        told.are.are_broken.faultless
        ∙ ap (λ (n : ℕ). n == 0) (counts_same fault_total ∙ totals is.circuit is.cases);
    exact = λ sure.
        told.are.are_broken.exact (tests_same are_sure ∙ sure) ∙ counts_same broken_count;
  }

pub ends_by_limits : (words : List (List ℕ)) (text : List ℕ) (o : Outcome)
    (taken taken' : Option (List ℕ)) →
    (o ≡ NoMemory) ⊎ IsAnswered slack_program words text o taken taken' → EndsByLimits words text o
ends_by_limits words text o taken taken' (inl none) asks = inl none
ends_by_limits words text o taken taken' (inr answered) asks =
    inr (by_answer o answered.bytes answered.is)
  where
    is : TextSettles asks.request.rounds text
    is = asks.settles

    by_answer : (p : Outcome) (bytes : List ℕ) → Answer slack_program words text p bytes →
        IsVerdict is.circuit is.cases p
    by_answer _ _ (no_form i form) = let known = asks.form in absurd (cc)
    by_answer _ _ (too_long command form reads long) =
        let short = asks.short in absurd (omega (arith, long, short))
    by_answer _ _ (replied command p bytes form short replies) =
        let form' = asks.form in
        let same : command ≡ asks.request = cc (form, form') in
        let part = asks.request.part in
        let rounds = asks.request.rounds in
        by_limits part rounds text p bytes is
        (is_of_text part rounds text p bytes is
        (subst (λ (r : Request). Evaluated (slacks_of r.part) r.rounds text p bytes) same replies))

-- ---- where no limit is broken

clean_none : (n : ℕ) → verdict_of n ≡ Clean → (n == 0) ≡ true
clean_none n is = by (n == 0) is
  where
    by : (none : Bool) → cond none Clean (Faulty n) ≡ Clean → none ≡ true
    by true same = refl
    by false same = absurd (cc)

concluded_slacks : (part : Part) (c : Circuit) (values : List (List CaseValue)) (limit limit' : ℕ)
    (o : Outcome) (bytes : List ℕ) → Concluded (AreSlacks part) c values limit o bytes → o ≡ Clean →
    (safe : IsSafe c values limit' (IsKept c)) → AreSlacksOf part c (cases_of safe.cases) o bytes
concluded_slacks part c values limit limit' _ _
    (answer.settled base cases o bytes settles are_settled is) clean safe =
    subst (λ (some : List Settled). AreSlacksOf part c (cases_of some) o bytes)
    (settles_in_one_way c limit limit' base safe.base (listed_cases values) cases safe.cases
    settles are_settled safe.settles safe.are_settled).1 is
concluded_slacks part c values limit limit' _ _ (answer.unsettled place stops) clean safe =
    absurd (cc)

pub clean_never_breaks : (part : Part) (rounds : Option ℕ) (text : List ℕ) (o : Outcome)
    (bytes : List ℕ) → Evaluated (slacks_of part) rounds text o bytes → FaultlessNeverBreaks text →
    o ≡ Clean → NeverBreaks text
clean_never_breaks part rounds text _ _ (answer.refused r is) kept clean = absurd (cc)
clean_never_breaks part rounds text _ _ (answer.judged c values o bytes draws concluded) kept
    clean =
    let same = text_draws_one_circuit text c kept.circuit values kept.values draws kept.drawn in
    let slacks =
    concluded_slacks part kept.circuit kept.values (limit_for c rounds) kept.limit o bytes
    (subst (λ (vs : List (List CaseValue)). Concluded (AreSlacks part) kept.circuit vs
    (limit_for c rounds) o bytes) same.1
    (subst (λ (z : Circuit). Concluded (AreSlacks part) z values (limit_for c rounds) o bytes)
    same.0 concluded)) clean kept.never in
    let none : (fault_count kept.circuit kept.never.cases == 0) ≡ true =
    ap (λ (n : ℕ). n == 0) (sym (totals kept.circuit kept.never.cases))
    ∙ sym slacks.are_broken.faultless ∙ clean_none slacks.broken (sym slacks.outcome ∙ clean) in
    record {
      circuit = kept.circuit;
      values = kept.values;
      drawn = kept.drawn;
      limit = kept.limit;
      never =
          faultless_is_safe kept.circuit kept.values kept.limit kept.never
          (eqb-true (fault_count kept.circuit kept.never.cases) 0 none);
    }

-- the reply of a part is that of the request that asks for it
pub reply_is : (request : Request) (part : Part) (text : List ℕ)
    (made : Result (Reply Outcome) OutOfMemory) → request.part ≡ part →
    IfOk made (λ reply. Evaluated (slacks_of part) request.rounds text reply.outcome reply.bytes) →
    IfOk made (λ reply.
    Evaluated (slacks_of request.part) request.rounds text reply.outcome reply.bytes)
reply_is request part text made is =
    subst (λ (p : Part). IfOk made (λ reply.
    Evaluated (slacks_of p) request.rounds text reply.outcome reply.bytes)) (sym is)

pub reply_promised : (part : Part) (rounds : Option ℕ) (text : List ℕ)
    (made : Result (Reply Outcome) OutOfMemory) →
    IfOk made (λ reply. Evaluated (slacks_of part) rounds text reply.outcome reply.bytes) →
    IfOk made (λ reply. is_finished reply.outcome ≡ true → FaultlessNeverBreaks text) →
    IfOk made (λ reply. reply.outcome ≡ Clean → NeverBreaks text)
reply_promised part rounds text (Ok reply) is kept = λ clean.
    clean_never_breaks part rounds text reply.outcome reply.bytes is (kept (ap is_finished clean))
    clean
reply_promised part rounds text (Err e) is kept = tt

-- what is promised of the text that was read is true of the text that is told
pub of_told : (words : List (List ℕ)) (left left' : Option (List ℕ)) (o : Outcome)
    (taken taken' : Option (List ℕ)) →
    (speaks slack_program o ≡ true →
    IsReplied slack_program NeverBreaksIfMet words left left' o taken taken') →
    IfSome left (λ text. o ≡ Clean → NeverBreaks text)
of_told words None left' o taken taken' reply = tt
of_told words (Some text) left' o taken taken' reply = λ clean.
    let r = reply (ap (speaks slack_program) clean) in
    subst NeverBreaks
    (told_all slack_program slack_program_lawful words (Some text) left' text o r.bytes
    (by_source refl) r.reply refl)
    (r.kept clean)

-- ---- without loops

slacks_settle : (part : Part) (text : List ℕ) (o : Outcome) (bytes : List ℕ) →
    Evaluated (slacks_of part) None text o bytes → SettlesLoopless text o
slacks_settle part text o bytes =
    evaluated_settles (slacks_of part) text o bytes
    (λ d c base cases p bs is place last still.
    verdict_settles is.broken place last (sym is.outcome ∙ still))

answer_settles : (words : List (List ℕ)) (text : List ℕ) (o : Outcome) (bytes : List ℕ) →
    Answer slack_program words text o bytes → SettlesUnlimited words text o
answer_settles words text _ _ (no_form i form) request is none free place last still = absurd (cc)
answer_settles words text _ _ (too_long command form reads long) request is none free place last
    still = absurd (cc)
answer_settles words text _ _ (replied command o bytes form short replies) request is none free
    place last still =
    let same : command ≡ request = cc (form, is) in
    slacks_settle command.part text o bytes
    (subst (λ (rounds : Option ℕ). Evaluated (slacks_of command.part) rounds text o bytes)
    (ap (λ (r : Request). r.rounds) same ∙ none) replies) free place last still

pub settles_unlimited : (words : List (List ℕ)) (text : List ℕ) (o : Outcome)
    (taken taken' : Option (List ℕ)) →
    (speaks slack_program o ≡ true → IsAnswered slack_program words text o taken taken') →
    SettlesUnlimited words text o
settles_unlimited words text o taken taken' truthful request is none free place last still =
    let answered = truthful (ap (speaks slack_program) still) in
    answer_settles words text o answered.bytes answered.is request is none free place last still
