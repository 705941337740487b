-- A text has one answer, and of limits one verdict.
use Rattle.std.proofs.Common.{◌≡◌, ◌∙◌, ℕ, suc, Bool, true, false, refl, ap, sym, subst, List, length, Option}
use Rattle.scald_base.specs.declared.refusal.Refusal.{Refusal}
use Rattle.scald_base.specs.declared.outcome.Outcome.TheVariants.{Refused, Unsettled}
use Rattle.flat_circuit.specs.declared.case.CaseValue.{CaseValue}
use Rattle.flat_circuit.specs.Circuit.{Circuit}
use Rattle.fixpoint_engine.specs.Rounds.{SettlesAt}
use Rattle.case_analysis.specs.Base.{base_round}
use Rattle.listing.specs.Answer.{refusal_line, unsettled_line}
use Rattle.timing_analysis.specs.Case.{AreSettled, Case, StopsAt, fault_count, listed_cases}
use Rattle.timing_analysis.specs.Ended.{StopsEarly, by_base, by_case}
use Rattle.timing_analysis.proofs.OneText.{not_refused, one_refusal, text_draws_one_circuit}
use Rattle.timing_analysis.proofs.SettlesOneWay.{one_place, one_stop, settled_or_stopped, settles_in_one_way, settles_once}
use Rattle.program_call.specs.Answer.{limit_for, verdict_of}
use Rattle.draw_report.specs.declared.asked.Asked.{Asked}
use Rattle.draw_report.specs.declared.asked.Asked.TheVariants.{Case as OfCase, Limits as OfLimits}
use Rattle.draw_report.specs.declared.asked.Limits.{Limits as AskedLimits}
use Rattle.draw_report.specs.declared.drawn.Drawn.{Drawn}
use Rattle.draw_report.specs.declared.drawn.Drawn.TheVariants.{Much, NoRow, Picture}
use Rattle.draw_report.specs.declared.outcome.DrawOutcome.{DrawOutcome}
use Rattle.draw_report.specs.declared.outcome.DrawOutcome.TheVariants.{Drawing, Limits, NoCase, NoNet, NoRow as LacksRow, TooMuch}
use Rattle.draw_report.specs.Answer as answer
use Rattle.draw_report.specs.Answer.{AreOne, Draws, DrawsAsked, DrawsCase, DrawsLimits, HasVerdict, settled, told, unsettled, untold}
use Rattle.draw_report.specs.Case.{answer_of}
use Rattle.draw_report.specs.Below.{has_below}
use Rattle.draw_report.specs.Drawn.{answered, answered_below}
use Rattle.draw_report.specs.Words.{Asking}

-- ---- answers that are one

pub same_one : (o : DrawOutcome) (bytes : List ℕ) → AreOne o bytes o bytes
same_one (Drawing o) bytes = (refl, refl)
same_one (Limits o) bytes = refl
same_one (NoCase count) bytes = (refl, refl)
same_one (LacksRow count) bytes = tt
same_one NoNet bytes = (refl, refl)
same_one TooMuch bytes = tt

-- equal ones
equal_one : (o p : DrawOutcome) (bytes others : List ℕ) → (o ≡ p) × (bytes ≡ others) →
    AreOne o bytes p others
equal_one o p bytes others same =
    subst (λ (q : DrawOutcome). AreOne o bytes q others) same.0
    (subst (λ (bs : List ℕ). AreOne o bytes o bs) same.1 (same_one o bytes))

has_verdict : (d : Drawn) (n m : ℕ) → n ≡ m → HasVerdict (verdict_of n) (answered d m).outcome
has_verdict (NoRow count) n m same = tt
has_verdict Much n m same = tt
has_verdict (Picture bytes) n m same = ap verdict_of same

-- what is drawn of limits of one drawing
drawn_one : (d e : Drawn) (n m : ℕ) → n ≡ m →
    AreOne (answered d n).outcome (answered d n).bytes (answered e m).outcome (answered e m).bytes
drawn_one (Picture bytes) e n m same = has_verdict e n m same
drawn_one (NoRow count) (NoRow other) n m same = tt
drawn_one (NoRow count) Much n m same = tt
drawn_one (NoRow count) (Picture others) n m same = tt
drawn_one Much (NoRow other) n m same = tt
drawn_one Much Much n m same = tt
drawn_one Much (Picture others) n m same = tt

-- whether there are such nets or not
below_one : (has : Bool) (d e : Drawn) (n m : ℕ) → n ≡ m →
    AreOne (answered_below has d n).outcome (answered_below has d n).bytes
    (answered_below has e m).outcome (answered_below has e m).bytes
below_one false d e n m same = (refl, refl)
below_one true d e n m same = drawn_one d e n m same

-- ---- of a circuit

module _ (c : Circuit) (values : List (List CaseValue)) (limit : ℕ) where
  settled_or_not : (base place : ℕ) (cases : List Case) → SettlesAt (base_round c) limit base →
      AreSettled c limit base (listed_cases values) cases → StopsEarly c values limit place → ⊥
  settled_or_not base place cases settles are_settled (by_base is) =
      is.never base settles.within settles.still
  settled_or_not base place cases settles are_settled (by_case other settles' stops) =
      let same : other ≡ base = settles_once (base_round c) limit limit other base settles' settles in
      settled_or_stopped c limit base (listed_cases values) cases place are_settled
      (subst (λ (b : ℕ). StopsAt c limit b (listed_cases values) place) same stops)

  one_stop_early : (place other : ℕ) → StopsEarly c values limit place →
      StopsEarly c values limit other → place ≡ other
  one_stop_early place other (by_base is) (by_base is') =
      one_place c.order (base_round c limit) (base_round c (suc limit)) place other is.first is'.first
  one_stop_early place other (by_base is) (by_case base settles stops) =
      absurd (is.never base settles.within settles.still)
  one_stop_early place other (by_case base settles stops) (by_base is) =
      absurd (is.never base settles.within settles.still)
  one_stop_early place other (by_case base settles stops) (by_case base' settles' stops') =
      let same : base' ≡ base = settles_once (base_round c) limit limit base' base settles' settles in
      one_stop c limit base (listed_cases values) place other stops
      (subst (λ (b : ℕ). StopsAt c limit b (listed_cases values) other) same stops')

  one_case : (asked : ℕ) (o o' : DrawOutcome) (bytes bytes' : List ℕ) →
      DrawsCase asked c values limit o bytes → DrawsCase asked c values limit o' bytes' →
      (o ≡ o') × (bytes ≡ bytes')
  one_case asked _ _ _ _ (settled base cases settles are_settled)
      (settled base' cases' settles' are_settled') =
      let same = settles_in_one_way c limit limit base base' (listed_cases values) cases cases' settles
      are_settled settles' are_settled' in (
        ap (λ (b : ℕ). (answer_of c b asked cases (length values)).outcome) same.0
            ∙ ap (λ (cs : List Case). (answer_of c base' asked cs (length values)).outcome) same.1,
        ap (λ (b : ℕ). (answer_of c b asked cases (length values)).bytes) same.0
            ∙ ap (λ (cs : List Case). (answer_of c base' asked cs (length values)).bytes) same.1,
      )
  one_case asked _ _ _ _ (settled base cases settles are_settled) (unsettled place stops) =
      absurd (settled_or_not base place cases settles are_settled stops)
  one_case asked _ _ _ _ (unsettled place stops) (settled base cases settles are_settled) =
      absurd (settled_or_not base place cases settles are_settled stops)
  one_case asked _ _ _ _ (unsettled place stops) (unsettled other stops') =
      let same : place ≡ other = one_stop_early place other stops stops' in (
        ap (λ (k : ℕ). Drawing (Unsettled k limit)) same,
        ap (λ (k : ℕ). unsettled_line c k limit) same,
      )

  one_limits : (asked : AskedLimits) (under : Option (List ℕ)) (o o' : DrawOutcome)
      (bytes bytes' : List ℕ) → DrawsLimits asked under c values limit o bytes →
      DrawsLimits asked under c values limit o' bytes' → AreOne o bytes o' bytes'
  one_limits asked under _ _ _ _ (told t is) (told t' is') =
      let same = settles_in_one_way c limit limit is.base is'.base (listed_cases values)
      is.of_cases.cases is'.of_cases.cases is.settles is.of_cases.are_settled is'.settles
      is'.of_cases.are_settled in
      below_one (has_below c under) t.drawn t'.drawn t.faults t'.faults
      (is.of_cases.holds ∙ ap (λ (cs : List Case). fault_count c cs) same.1 ∙ sym is'.of_cases.holds)
  one_limits asked under _ _ _ _ (told t is) (untold place stops) =
      absurd (settled_or_not is.base place is.of_cases.cases is.settles is.of_cases.are_settled stops)
  one_limits asked under _ _ _ _ (untold place stops) (told t is) =
      absurd (settled_or_not is.base place is.of_cases.cases is.settles is.of_cases.are_settled stops)
  one_limits asked under _ _ _ _ (untold place stops) (untold other stops') =
      let same : place ≡ other = one_stop_early place other stops stops' in (
        ap (λ (k : ℕ). Drawing (Unsettled k limit)) same,
        ap (λ (k : ℕ). unsettled_line c k limit) same,
      )

  one_asked : (asked : Asked) (under : Option (List ℕ)) (o o' : DrawOutcome)
      (bytes bytes' : List ℕ) → DrawsAsked asked under c values limit o bytes →
      DrawsAsked asked under c values limit o' bytes' → AreOne o bytes o' bytes'
  one_asked (OfCase number) under o o' bytes bytes' is is' =
      equal_one o o' bytes bytes' (one_case number o o' bytes bytes' is is')
  one_asked (OfLimits limits) under o o' bytes bytes' is is' =
      one_limits limits under o o' bytes bytes' is is'

-- ---- of a text

pub one_answer : (asking : Asking) (text : List ℕ) (o o' : DrawOutcome) (bytes bytes' : List ℕ) →
    Draws asking text o bytes → Draws asking text o' bytes' → AreOne o bytes o' bytes'
one_answer asking text _ _ _ _ (answer.refused r is) (answer.refused q is') =
    let same : r ≡ q = one_refusal text r q is is' in
    (ap (λ (z : Refusal). Drawing (Refused z)) same, ap refusal_line same)
one_answer asking text _ _ _ _ (answer.refused r is)
    (answer.drawn c values o' bytes' draws j) = absurd (not_refused text r c values is draws)
one_answer asking text _ _ _ _ (answer.drawn c values o bytes draws j)
    (answer.refused q is') = absurd (not_refused text q c values is' draws)
one_answer asking text _ _ _ _ (answer.drawn c values o bytes draws j)
    (answer.drawn c' values' o' bytes' draws' j') =
    let r = asking.request in
    let same = text_draws_one_circuit text c' c values' values draws' draws in
    one_asked c values (limit_for c r.rounds) r.asked asking.under o o' bytes bytes' j
    (subst (λ (vs : List (List CaseValue)). DrawsAsked r.asked asking.under c vs
    (limit_for c r.rounds) o' bytes') same.1
    (subst (λ (z : Circuit). DrawsAsked r.asked asking.under z values' (limit_for z r.rounds) o'
    bytes') same.0 j'))
