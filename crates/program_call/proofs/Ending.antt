-- From an end without rest to what is answered.
use Rattle.std.proofs.Common.{◌≡◌, ℕ, true, List, sym, ap, subst, ◌∙◌, IfOk, Result, Ok, Err}
use Rattle.scald_base.specs.declared.list.NoMemory.{NoMemory as OutOfMemory}
use Rattle.flat_circuit.specs.declared.case.CaseValue.{CaseValue}
use Rattle.flat_circuit.specs.Circuit.{Circuit}
use Rattle.fixpoint_engine.specs.declared.rounds.EngineEnd.{EngineEnd}
use Rattle.fixpoint_engine.specs.declared.rounds.EngineEnd.TheVariants.{Unsettled}
use Rattle.listing.specs.Answer.{unsettled_line}
use Rattle.timing_analysis.specs.Ended.{EndsEarly}
use Rattle.scald_base.specs.declared.outcome.Outcome.{Outcome}
use Rattle.scald_base.specs.declared.outcome.Outcome.TheVariants.{Unsettled as UnsettledOutcome}
use Rattle.program_call.specs.declared.reply.Reply.{Reply}
use Rattle.program_call.specs.Ended.{IsEnded}
use Rattle.program_call.specs.Answer.{Reporting, Concluded, is_finished, unsettled}

-- what is answered to an end, whatever would have been reported of a settled circuit
module _ (Reports : Reporting) (c : Circuit) (values : List (List CaseValue)) (limit : ℕ) where
  concluded_by : (end : EngineEnd) (o : Outcome) (bytes : List ℕ) → EndsEarly c values limit end →
      IsEnded c end o bytes →
      Concluded Reports c values limit o bytes
  concluded_by end o bytes ends is =
      let there : EndsEarly c values limit (Unsettled is.place is.round) = subst (EndsEarly c values limit) is.end_is ends in
      subst (λ (z : Outcome). Concluded Reports c values limit z bytes)
      (sym (is.outcome ∙ ap (UnsettledOutcome is.place) there.1))
      (subst (λ (z : List ℕ). Concluded Reports c values limit (UnsettledOutcome is.place limit) z)
      (sym (is.text ∙ ap (unsettled_line c is.place) there.1)) (unsettled is.place there.0))

  pub concluded_ended : (end : EngineEnd) (made : Result (Reply Outcome) OutOfMemory) →
      EndsEarly c values limit end →
      IfOk made (λ reply. IsEnded c end reply.outcome reply.bytes) →
      IfOk made (λ reply. Concluded Reports c values limit reply.outcome reply.bytes)
  concluded_ended end (Ok reply) ends is = concluded_by end reply.outcome reply.bytes ends is
  concluded_ended end (Err e) ends is = tt

pub end_unfinished : (P : Type 0) (c : Circuit) (end : EngineEnd)
    (made : Result (Reply Outcome) OutOfMemory) →
    IfOk made (λ reply. IsEnded c end reply.outcome reply.bytes) →
    IfOk made (λ reply. is_finished reply.outcome ≡ true → P)
end_unfinished P c end (Ok reply) is = λ finished. let none =
    sym (ap is_finished is.outcome) ∙ finished in absurd (cc)
end_unfinished P c end (Err e) is = tt
