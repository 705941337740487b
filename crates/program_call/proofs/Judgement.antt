-- A circuit has one conclusion, and a text is evaluated in one way, if what is reported of a
-- circuit is one.
use Rattle.std.proofs.Common.{◌≡◌, ℕ, suc, refl, sym, ap, subst, List, Option}
use Rattle.flat_circuit.specs.declared.case.CaseValue.{CaseValue}
use Rattle.flat_circuit.specs.Circuit.{Circuit}
use Rattle.fixpoint_engine.specs.Rounds.{SettlesAt}
use Rattle.case_analysis.specs.Base.{base_round}
use Rattle.drawing_tree.specs.Tree.{Drawing}
use Rattle.drawing_grammar.proofs.TextLaws.{one_drawing}
use Rattle.timing_analysis.proofs.OneText.{not_refused, one_refusal, text_draws_one_circuit}
use Rattle.listing.specs.Answer.{unsettled_line}
use Rattle.timing_analysis.specs.Case.{Case, AreSettled, StopsAt, listed_cases}
use Rattle.timing_analysis.specs.Ended.{StopsEarly, by_base, by_case}
use Rattle.timing_analysis.proofs.SettlesOneWay.{settles_once, one_place, settles_in_one_way, settled_or_stopped, one_stop}
use Rattle.scald_base.specs.declared.outcome.Outcome.{Outcome}
use Rattle.scald_base.specs.declared.outcome.Outcome.TheVariants.{Unsettled}
use Rattle.program_call.specs.Answer as answer
use Rattle.program_call.specs.Answer.{Reporting, limit_for, Concluded, Evaluated, settled, unsettled}

-- ---- settled or not

module _ (c : Circuit) (values : List (List CaseValue)) (limit : ℕ) where
  settled_or_not : (base place : ℕ) (cases : List Case) → SettlesAt (base_round c) limit base →
      AreSettled c limit base (listed_cases values) cases → StopsEarly c values limit place → ⊥
  settled_or_not base place cases settles are_settled (by_base is) =
      is.never base settles.within settles.still
  settled_or_not base place cases settles are_settled (by_case other settles' stops) =
      let same : other ≡ base = settles_once (base_round c) limit limit other base settles' settles in
      settled_or_stopped c limit base (listed_cases values) cases place are_settled
      (subst (λ (b : ℕ). StopsAt c limit b (listed_cases values) place) same stops)

  one_stop_early : (place other : ℕ) → StopsEarly c values limit place →
      StopsEarly c values limit other → place ≡ other
  one_stop_early place other (by_base is) (by_base is') =
      one_place c.order (base_round c limit) (base_round c (suc limit)) place other is.first
      is'.first
  one_stop_early place other (by_base is) (by_case base settles stops) =
      absurd (is.never base settles.within settles.still)
  one_stop_early place other (by_case base settles stops) (by_base is) =
      absurd (is.never base settles.within settles.still)
  one_stop_early place other (by_case base settles stops) (by_case base' settles' stops') =
      let same : base' ≡ base = settles_once (base_round c) limit limit base' base settles' settles in
      one_stop c limit base (listed_cases values) place other stops
      (subst (λ (b : ℕ). StopsAt c limit b (listed_cases values) other) same stops')

-- ---- conclusions

-- of a settled circuit one outcome and its bytes are reported
abbrev pub IsOne : (Drawing → Reporting) → Type 0
IsOne Reports =
    (d : Drawing) (c : Circuit) (base : ℕ) (cases : List Case) (o o' : Outcome)
    (bytes bytes' : List ℕ) →
    Reports d c base cases o bytes → Reports d c base cases o' bytes' → (o ≡ o') × (bytes ≡ bytes')

module _ (Reports : Drawing → Reporting) (one : IsOne Reports) where
  one_conclusion : (d : Drawing) (c : Circuit) (values : List (List CaseValue)) (limit : ℕ)
      (o o' : Outcome) (bytes bytes' : List ℕ) →
      Concluded (Reports d) c values limit o bytes →
      Concluded (Reports d) c values limit o' bytes' → (o ≡ o') × (bytes ≡ bytes')
  one_conclusion d c values limit _ _ _ _ (settled base cases o bytes settles are_settled is)
      (settled base' cases' o' bytes' settles' are_settled' is') =
      let same = settles_in_one_way c limit limit base base' (listed_cases values) cases cases' settles
      are_settled settles' are_settled' in
      one d c base cases o o' bytes bytes' is
      (subst (λ (b : ℕ). Reports d c b cases o' bytes') (sym same.0)
      (subst (λ (cs : List Case). Reports d c base' cs o' bytes') (sym same.1) is'))
  one_conclusion d c values limit _ _ _ _ (settled base cases o bytes settles are_settled is)
      (unsettled place stops) =
      absurd (settled_or_not c values limit base place cases settles are_settled stops)
  one_conclusion d c values limit _ _ _ _ (unsettled place stops)
      (settled base cases o bytes settles are_settled is) =
      absurd (settled_or_not c values limit base place cases settles are_settled stops)
  one_conclusion d c values limit _ _ _ _ (unsettled place stops) (unsettled other stops') =
      let same : place ≡ other = one_stop_early c values limit place other stops stops' in
      (ap (λ (k : ℕ). Unsettled k limit) same, ap (λ (k : ℕ). unsettled_line c k limit) same)

  -- ---- answers

  pub one_evaluated : (rounds : Option ℕ) (text : List ℕ) (o o' : Outcome) (bytes bytes' : List ℕ) →
      Evaluated Reports rounds text o bytes → Evaluated Reports rounds text o' bytes' →
      (o ≡ o') × (bytes ≡ bytes')
  one_evaluated rounds text _ _ _ _ (answer.refused r is) (answer.refused q is') =
      let same : r ≡ q = one_refusal text r q is is' in (rw same refl, rw same refl)
  one_evaluated rounds text _ _ _ _ (answer.refused r is)
      (answer.judged c values o' bytes' drawn j) = absurd (not_refused text r c values is drawn)
  one_evaluated rounds text _ _ _ _ (answer.judged c values o bytes drawn j)
      (answer.refused q is') = absurd (not_refused text q c values is' drawn)
  one_evaluated rounds text _ _ _ _ (answer.judged c values o bytes drawn j)
      (answer.judged c' values' o' bytes' drawn' j') =
      let same = text_draws_one_circuit text c' c values' values drawn' drawn in
      let d = drawn.drawing in
      let drawings : drawn'.drawing ≡ d =
      one_drawing text drawn'.drawing d drawn'.draws.drawn drawn.draws.drawn in
      one_conclusion d c values (limit_for c rounds) o o' bytes bytes' j
      (subst (λ (vs : List (List CaseValue)). Concluded (Reports d) c vs (limit_for c rounds) o'
      bytes') same.1
      (subst (λ (z : Circuit). Concluded (Reports d) z values' (limit_for z rounds) o' bytes')
      same.0
      (subst (λ (e : Drawing). Concluded (Reports e) c' values' (limit_for c' rounds) o' bytes')
      drawings j')))
