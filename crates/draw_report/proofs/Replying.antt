-- From what was found or drawn, or from an end, to the answer.
use Rattle.std.proofs.Common.{◌≡◌, ◌∙◌, ℕ, Bool, sym, ap, subst, List, length, Option}
use Rattle.scald_base.specs.declared.refusal.Refusal.{Refusal}
use Rattle.scald_base.specs.declared.outcome.Outcome.{Outcome}
use Rattle.scald_base.specs.declared.outcome.Outcome.TheVariants.{Refused, Unsettled as UnsettledOutcome}
use Rattle.flat_circuit.specs.declared.case.CaseValue.{CaseValue}
use Rattle.flat_circuit.specs.Circuit.{Circuit}
use Rattle.fixpoint_engine.specs.declared.rounds.EngineEnd.{EngineEnd}
use Rattle.fixpoint_engine.specs.declared.rounds.EngineEnd.TheVariants.{Unsettled}
use Rattle.listing.specs.Answer.{refusal_line, unsettled_line}
use Rattle.timing_analysis.specs.Drawn.{IsTextRefused}
use Rattle.timing_analysis.specs.Ended.{EndsEarly, StopsEarly}
use Rattle.program_call.specs.declared.reply.Reply.{Reply}
use Rattle.program_call.specs.Ended.{IsEnded}
use Rattle.draw_report.specs.declared.asked.Limits.{Limits}
use Rattle.draw_report.specs.declared.job.Told.{Told}
use Rattle.draw_report.specs.declared.outcome.DrawOutcome.{DrawOutcome}
use Rattle.draw_report.specs.declared.outcome.DrawOutcome.TheVariants.{Drawing}
use Rattle.draw_report.specs.declared.sought.Sought.{Sought}
use Rattle.draw_report.specs.Answer.{Draws, DrawsCase, DrawsLimits, refused, settled, told, unsettled, untold}
use Rattle.draw_report.specs.Case.{IsFoundIn, answer_of, answered}
use Rattle.draw_report.specs.Below.{has_below}
use Rattle.draw_report.specs.Drawn.{IsToldOf, answered_below}
use Rattle.draw_report.specs.Words.{Asking}

-- an answer with this outcome and these bytes
answer_has : (Answers : DrawOutcome → List ℕ → Type 0) (o p : DrawOutcome) (bytes others : List ℕ) →
    Answers p others → o ≡ p → bytes ≡ others → Answers o bytes
answer_has Answers o p bytes others draws outcome text =
    subst (λ (z : DrawOutcome). Answers z bytes) (sym outcome)
    (subst (λ (zs : List ℕ). Answers p zs) (sym text) draws)

module _ (c : Circuit) (values : List (List CaseValue)) (limit : ℕ) where
  pub found_drawn : (asked : ℕ) (s : Sought) (count : ℕ) (o : DrawOutcome) (bytes : List ℕ) →
      IsFoundIn s asked c values limit → count ≡ length values →
      o ≡ (answered s.found count s.faults).outcome →
      bytes ≡ (answered s.found count s.faults).bytes → DrawsCase asked c values limit o bytes
  found_drawn asked s count o bytes is counted outcome text =
      let holds = is.of_cases.holds in
      let answer = answer_of c is.base asked is.of_cases.cases (length values) in
      answer_has (DrawsCase asked c values limit) o answer.outcome bytes answer.bytes
      (settled is.base is.of_cases.cases is.settles is.of_cases.are_settled)
      (outcome ∙ (λ k. (answered (holds.found_is k) (counted k) (holds.faults_are k)).outcome))
      (text ∙ (λ k. (answered (holds.found_is k) (counted k) (holds.faults_are k)).bytes))

  pub told_drawn : (asked : Limits) (under : Option (List ℕ)) (t : Told) (has : Bool)
      (o : DrawOutcome) (bytes : List ℕ) → IsToldOf asked c values limit t →
      has ≡ has_below c under → o ≡ (answered_below has t.drawn t.faults).outcome →
      bytes ≡ (answered_below has t.drawn t.faults).bytes →
      DrawsLimits asked under c values limit o bytes
  told_drawn asked under t has o bytes is below outcome text =
      let answer = answered_below (has_below c under) t.drawn t.faults in
      answer_has (DrawsLimits asked under c values limit) o answer.outcome bytes answer.bytes
      (told t is) (outcome ∙ (λ k. (answered_below (below k) t.drawn t.faults).outcome))
      (text ∙ (λ k. (answered_below (below k) t.drawn t.faults).bytes))

  -- of an end that is answered as the verifier answers it
  ended_as : (Answers : DrawOutcome → List ℕ → Type 0) →
      ((place : ℕ) → StopsEarly c values limit place →
      Answers (Drawing (UnsettledOutcome place limit)) (unsettled_line c place limit)) →
      (end : EngineEnd) (reply : Reply Outcome) (o : DrawOutcome) (bytes : List ℕ) →
      EndsEarly c values limit end → IsEnded c end reply.outcome reply.bytes →
      o ≡ Drawing reply.outcome → bytes ≡ reply.bytes → Answers o bytes
  ended_as Answers stopped end reply o bytes ends is outcome text =
      let there : EndsEarly c values limit (Unsettled is.place is.round) =
      subst (EndsEarly c values limit) is.end_is ends in
      answer_has Answers o (Drawing (UnsettledOutcome is.place limit)) bytes
      (unsettled_line c is.place limit) (stopped is.place there.0)
      (outcome ∙ ap Drawing (is.outcome ∙ ap (UnsettledOutcome is.place) there.1))
      (text ∙ is.text ∙ ap (unsettled_line c is.place) there.1)

  pub ended_drawn : (asked : ℕ) (end : EngineEnd) (reply : Reply Outcome) (o : DrawOutcome)
      (bytes : List ℕ) → EndsEarly c values limit end → IsEnded c end reply.outcome reply.bytes →
      o ≡ Drawing reply.outcome → bytes ≡ reply.bytes → DrawsCase asked c values limit o bytes
  ended_drawn asked = ended_as (DrawsCase asked c values limit) unsettled

  pub ended_untold : (asked : Limits) (under : Option (List ℕ)) (end : EngineEnd)
      (reply : Reply Outcome) (o : DrawOutcome) (bytes : List ℕ) → EndsEarly c values limit end →
      IsEnded c end reply.outcome reply.bytes → o ≡ Drawing reply.outcome → bytes ≡ reply.bytes →
      DrawsLimits asked under c values limit o bytes
  ended_untold asked under = ended_as (DrawsLimits asked under c values limit) untold

-- of a text that is refused
pub refused_drawn : (asking : Asking) (text : List ℕ) (r : Refusal) (reply : Reply Outcome)
    (o : DrawOutcome) (bytes : List ℕ) → IsTextRefused text r → reply.outcome ≡ Refused r →
    reply.bytes ≡ refusal_line r → o ≡ Drawing reply.outcome → bytes ≡ reply.bytes →
    Draws asking text o bytes
refused_drawn asking text r reply o bytes is outcome_is text_is outcome same =
    answer_has (Draws asking text) o (Drawing (Refused r)) bytes (refusal_line r) (refused r is)
    (outcome ∙ ap Drawing outcome_is) (same ∙ text_is)
