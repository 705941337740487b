-- What is answered on a text is no end of a call, if what is reported is none.
use Rattle.std.proofs.Common.{◌≡◌, ℕ, Bool, true, false, cond, List, refl, Option, None}
use Rattle.std.specs.Prelude.{◌==◌}
use Rattle.scald_base.specs.declared.outcome.Outcome.{Outcome}
use Rattle.scald_base.specs.declared.outcome.Outcome.TheVariants.{Clean, Faulty}
use Rattle.scald_base.specs.Outcome.{end_of}
use Rattle.program_call.specs.Program.{IsLawful}
use Rattle.program_call.proofs.Answering.{end_of_ended}
use Rattle.drawing_tree.specs.Tree.{Drawing}
use Rattle.program_call.specs.Wordless.{reporting_program}
use Rattle.program_call.specs.Answer.{Reporting, Evaluated, verdict_of}
use Rattle.program_call.proofs.Judgement.{IsOne, one_evaluated}
use Rattle.program_call.proofs.Outcomes.{HoldsOfReports, evaluated_has}

pub evaluated_speaks : (Reports : Drawing → Reporting) (rounds : Option ℕ) (text : List ℕ)
    (o : Outcome) (bytes : List ℕ) →
    HoldsOfReports (λ o. end_of o ≡ None) Reports → Evaluated Reports rounds text o bytes →
    end_of o ≡ None
evaluated_speaks = evaluated_has (λ o. end_of o ≡ None) (λ place last. refl) (λ r. refl)

-- ---- outcomes of faults

pub verdict_speaks : (n : ℕ) → end_of (verdict_of n) ≡ None
verdict_speaks n = either (n == 0) n
  where
    either : (none : Bool) (n : ℕ) → end_of (cond none Clean (Faulty n)) ≡ None
    either true n = refl
    either false n = refl

-- ---- programs that report

pub reporting_is_lawful : (name : List ℕ) (Reports : Drawing → Reporting) →
    HoldsOfReports (λ o. end_of o ≡ None) Reports →
    IsOne Reports → IsLawful (reporting_program name Reports)
reporting_is_lawful name Reports spoken one = record {
  ends = end_of_ended;
  replies = λ request text o bytes replied. evaluated_speaks Reports None text o bytes spoken
      replied;
  one = λ request text o o' bytes bytes' replied replied'. one_evaluated Reports one None text o o'
      bytes bytes' replied replied';
  same = λ o bytes. (refl, refl);
  unread = λ request text other o bytes none replied. absurd (cc);
}
