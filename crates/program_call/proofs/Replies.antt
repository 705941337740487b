-- From what is made for a text to what is answered on it.
use Rattle.std.proofs.Common.{◌≡◌, ℕ, true, List, sym, subst, ap, ◌∙◌, IfOk, Result, Ok, Err}
use Rattle.std.specs.Prelude.{Option}
use Rattle.scald_base.specs.declared.refusal.Refusal.{Refusal}
use Rattle.scald_base.specs.declared.list.NoMemory.{NoMemory as OutOfMemory}
use Rattle.scald_base.specs.declared.outcome.Outcome.{Outcome}
use Rattle.scald_base.specs.declared.outcome.Outcome.TheVariants.{Refused}
use Rattle.drawing_tree.specs.Tree.{Drawing}
use Rattle.flat_circuit.specs.declared.case.CaseValue.{CaseValue}
use Rattle.flat_circuit.specs.Circuit.{Circuit}
use Rattle.fixpoint_engine.specs.declared.rounds.EngineEnd.{EngineEnd}
use Rattle.timing_analysis.specs.Drawn.{DrawsBy, IsTextRefused}
use Rattle.timing_analysis.specs.Ended.{EndsEarly}
use Rattle.timing_analysis.specs.Promise.{FaultlessNeverBreaks}
use Rattle.timing_analysis.specs.declared.subject.Subject.{Subject}
use Rattle.listing.specs.Answer.{refusal_line}
use Rattle.program_call.specs.declared.reply.Reply.{Reply}
use Rattle.program_call.specs.Answer as answer
use Rattle.program_call.specs.Answer.{Reporting, limit_for, Concluded, Evaluated, is_finished}
use Rattle.program_call.specs.Answer.{judged, settled}
use Rattle.program_call.specs.Ended.{IsEnded}
use Rattle.program_call.specs.Reporter.{IsRead, IsReported}
use Rattle.program_call.proofs.Ending.{concluded_ended}

-- what holds of this outcome with these bytes holds of a reply that has them
pub reply_has : (P : Outcome → List ℕ → Type 0) (o : Outcome) (bytes : List ℕ) (made : Result (Reply Outcome) OutOfMemory) → P o bytes →
    IfOk made (λ reply. reply.outcome ≡ o) → IfOk made (λ reply. reply.bytes ≡ bytes) → IfOk made (λ reply. P reply.outcome reply.bytes)
reply_has P o bytes (Ok reply) holds outcome_is bytes_are =
    subst (λ (z : Outcome). P z reply.bytes) (sym outcome_is) (subst (λ (z : List ℕ). P o z) (sym bytes_are) holds)
reply_has P o bytes (Err e) holds outcome_is bytes_are = tt

-- ---- a refusal

pub refused : (Reports : Drawing → Reporting) (rounds : Option ℕ) (text : List ℕ) (r : Refusal)
    (made : Result (Reply Outcome) OutOfMemory) → IsTextRefused text r →
    IfOk made (λ reply. reply.outcome ≡ Refused r) → IfOk made (λ reply. reply.bytes ≡ refusal_line r) →
    IfOk made (λ reply. Evaluated Reports rounds text reply.outcome reply.bytes)
refused Reports rounds text r made is outcome bytes =
    reply_has (Evaluated Reports rounds text) (Refused r) (refusal_line r) made
    (answer.refused r is) outcome bytes

pub refusal_unfinished : (P : Type 0) (r : Refusal) (made : Result (Reply Outcome) OutOfMemory) →
    IfOk made (λ reply. reply.outcome ≡ Refused r) →
    IfOk made (λ reply. is_finished reply.outcome ≡ true → P)
refusal_unfinished P r (Ok reply) is = λ finished. let none =
    sym (ap is_finished is) ∙ finished in absurd (cc)
refusal_unfinished P r (Err e) is = tt

-- ---- a text that is read

-- a text draws the circuit and the cases of a subject that are those that it draws
pub subject_drawn : (text : List ℕ) (d : Drawing) (c k : Circuit) (vs ws : List (List CaseValue)) →
    k ≡ c → ws ≡ vs →
    DrawsBy text d c vs → DrawsBy text d k ws
subject_drawn text d c k vs ws circuit cases by =
    subst (λ (z : Circuit). DrawsBy text d z ws) (sym circuit)
    (subst (λ (zs : List (List CaseValue)). DrawsBy text d c zs) (sym cases) by)

-- ---- a text that is evaluated

module _ {Kept : Type 0} (keeps : Drawing → Kept) (Reports : Kept → Reporting) (rounds : Option ℕ)
    (text : List ℕ) (kept : Kept)
    (subject : Subject) (limit : ℕ) (read : IsRead keeps text kept subject)
    (own : limit ≡ limit_for subject.circuit rounds) where
  evaluated : (o : Outcome) (bytes : List ℕ) →
      Concluded (Reports kept) subject.circuit subject.cases limit o bytes →
      Evaluated (λ (d : Drawing). Reports (keeps d)) rounds text o bytes
  evaluated o bytes j =
      judged subject.circuit subject.cases o bytes read.draws
      (subst (λ (k : Kept). Concluded (Reports k) subject.circuit subject.cases
      (limit_for subject.circuit rounds) o bytes) read.kept_is
      (subst (λ (n : ℕ). Concluded (Reports kept) subject.circuit subject.cases n o bytes) own j))

  pub reported_evaluated : (o : Outcome) (bytes : List ℕ) →
      IsReported (Reports kept) subject.circuit subject.cases limit o bytes →
      Evaluated (λ (d : Drawing). Reports (keeps d)) rounds text o bytes
  reported_evaluated o bytes is =
      evaluated o bytes (settled is.base is.of_cases.cases o bytes is.settles is.of_cases.are_settled
      is.of_cases.holds)

  pub reported_faultless : (o : Outcome) (bytes : List ℕ) →
      IsReported (Reports kept) subject.circuit subject.cases limit o bytes →
      FaultlessNeverBreaks text
  reported_faultless o bytes is = record {
    circuit = subject.circuit;
    values = subject.cases;
    drawn = read.draws;
    limit = limit;
    never = record {
      base = is.base;
      settles = is.settles;
      cases = is.of_cases.cases;
      are_settled = is.of_cases.are_settled;
      each = is.of_cases.kept;
    };
  }

  pub ended_evaluated : (end : EngineEnd) (made : Result (Reply Outcome) OutOfMemory) →
      EndsEarly subject.circuit subject.cases limit end →
      IfOk made (λ reply. IsEnded subject.circuit end reply.outcome reply.bytes) →
      IfOk made (λ reply. Evaluated (λ (d : Drawing). Reports (keeps d)) rounds text reply.outcome
      reply.bytes)
  ended_evaluated end (Ok reply) ends is =
      evaluated reply.outcome reply.bytes
      (concluded_ended (Reports kept) subject.circuit subject.cases limit end (Ok reply) ends
      is)
  ended_evaluated end (Err e) ends is = tt
