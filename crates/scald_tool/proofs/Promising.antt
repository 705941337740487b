-- What is promised of each form's reply.
use Rattle.std.proofs.Common.{◌≡◌, ◌∙◌, ℕ, true, false, List, refl, sym, ap, subst, IfOk, Result}
use Rattle.std.proofs.Common.{Ok, Err, Option, Some, None}
use Rattle.std.specs.Prelude.{◌≢◌}
use Rattle.scald_base.specs.declared.list.NoMemory.{NoMemory as OutOfMemory}
use Rattle.listing.specs.declared.case.Mode.{Mode}
use Rattle.scald_base.specs.declared.outcome.Outcome.{Outcome}
use Rattle.scald_base.specs.declared.outcome.Outcome.TheVariants.{Clean, Faulty, Done, Refused}
use Rattle.scald_base.specs.declared.outcome.Outcome.TheVariants.{Unsettled, BadWords, TooLong}
use Rattle.scald_base.specs.declared.outcome.Outcome.TheVariants.{ReadFault, WriteFault, NoMemory}
use Rattle.timing_analysis.specs.Drawn.{IsLoopless}
use Rattle.timing_analysis.specs.Case.{fault_count}
use Rattle.timing_analysis.specs.Promise.{FaultlessNeverBreaks}
use Rattle.program_call.specs.declared.reply.Reply.{Reply}
use Rattle.program_call.specs.Answer.{is_finished}
use Rattle.program_call.proofs.Outcomes.{evaluated_has, evaluated_settles, verdict_settles}
use Rattle.scald_tool.specs.declared.words.Command.{Command}
use Rattle.scald_tool.specs.declared.words.Command.TheVariants.{Verify, Format, Upgrade, Bench}
use Rattle.scald_tool.specs.Answer as answer
use Rattle.scald_tool.specs.Answer.{Measured, Replied, Reported, Verified}
use Rattle.scald_tool.specs.Kept.{IsPromised}
use Rattle.scald_tool.specs.Promise.{asks_verify, has_report, may_give, unlimited}
use Rattle.scald_tool.proofs.Promised.{clean_never_breaks}
use Rattle.scald_tool.proofs.Verdict.{verdict_given}

-- ---- which outcomes there are

pub is_given : (command : Command) (text : List ℕ) (o : Outcome) (bytes : List ℕ) →
    Replied command text o bytes → may_give command o ≡ true
is_given (Verify mode rounds) text o bytes r =
    evaluated_has (λ p. may_give (Verify mode rounds) p ≡ true) (λ place last. refl) (λ q. refl)
    (λ d. Reported mode d.version) rounds text o bytes
    (λ d c base cases p bs is. verdict_given mode rounds (fault_count c cases) p is.outcome) r
is_given Format text _ _ (answer.undrawn r is) = refl
is_given Format text _ _ (answer.drawn d draws) = refl
is_given Upgrade text _ _ (answer.unreadable r is) = refl
is_given Upgrade text _ _ (answer.readable d draws) = refl
is_given (Bench sections) text o bytes r =
    evaluated_has (λ p. may_give (Bench sections) p ≡ true) (λ place last. refl) (λ q. refl)
    (λ d. Measured sections) None _ o bytes
    (λ d c base cases p bs is. ap (may_give (Bench sections)) is.outcome) r

-- no other form gives a report
no_report : (form : Command) (o : Outcome) → asks_verify form ≡ false → may_give form o ≡ true →
    has_report o ≡ true → ⊥
no_report form Clean other given has = absurd (cc)
no_report form (Faulty n) other given has = absurd (cc)
no_report form Done other given has = absurd (cc)
no_report form (Refused r) other given has = absurd (cc)
no_report form (Unsettled place round) other given has = absurd (cc)
no_report form (BadWords i) other given has = absurd (cc)
no_report form TooLong other given has = absurd (cc)
no_report form ReadFault other given has = absurd (cc)
no_report form WriteFault other given has = absurd (cc)
no_report form NoMemory other given has = absurd (cc)

-- a report is finished
pub report_finished : (o : Outcome) → has_report o ≡ true → is_finished o ≡ true
report_finished Clean has = refl
report_finished (Faulty n) has = refl
report_finished Done has = absurd (cc)
report_finished (Refused r) has = absurd (cc)
report_finished (Unsettled place round) has = absurd (cc)
report_finished (BadWords i) has = absurd (cc)
report_finished TooLong has = absurd (cc)
report_finished ReadFault has = absurd (cc)
report_finished WriteFault has = absurd (cc)
report_finished NoMemory has = absurd (cc)

-- ---- without loops

pub verified_settles : (mode : Mode) (text : List ℕ) (o : Outcome) (bytes : List ℕ) →
    Verified mode None text o bytes →
    IsLoopless text → (place round : ℕ) → o ≢ Unsettled place round
verified_settles mode text o bytes r =
    evaluated_settles (λ d. Reported mode d.version) text o bytes
    (λ d c base cases p bs is place last still. verdict_settles (fault_count c cases) place last
    (sym is.outcome ∙ still)) r

settles : (command : Command) (text : List ℕ) (o : Outcome) (bytes : List ℕ) →
    Replied command text o bytes → (evaluated : List ℕ) (place round : ℕ) →
    unlimited command text ≡ Some evaluated → IsLoopless evaluated → o ≢ Unsettled place round
settles (Verify mode None) text o bytes r evaluated place round is free =
    verified_settles mode text o bytes r
    (let same : evaluated ≡ text = cc in subst IsLoopless same free) place round
settles (Verify mode (Some n)) text o bytes r evaluated place round is free = absurd (cc)
settles Format text o bytes r evaluated place round is free = absurd (cc)
settles Upgrade text o bytes r evaluated place round is free = absurd (cc)
settles (Bench sections) text o bytes r evaluated place round is free =
    evaluated_settles (λ d. Measured sections) _ o bytes
    (λ d c base cases p bs measured net last still. let none =
    sym measured.outcome ∙ still in absurd (cc)) r
    (let same : evaluated ≡ _ = cc in subst IsLoopless same free) place round

-- ---- all that is promised

by_verify : (mode : Mode) (rounds : Option ℕ) (text : List ℕ) (o : Outcome) (bytes : List ℕ) →
    Verified mode rounds text o bytes →
    (is_finished o ≡ true → FaultlessNeverBreaks text) → IsPromised (Verify mode rounds) text o
by_verify mode rounds text o bytes is faultless = record {
  given = is_given (Verify mode rounds) text o bytes is;
  loopless = settles (Verify mode rounds) text o bytes is;
  clean = λ clean. clean_never_breaks mode rounds text o bytes is clean
      (faultless (ap is_finished clean));
  faultless = λ has. faultless (report_finished o has);
}

by_others : (form : Command) (text : List ℕ) (o : Outcome) (bytes : List ℕ) →
    asks_verify form ≡ false → Replied form text o bytes →
    IsPromised form text o
by_others form text o bytes other is =
    let given = is_given form text o bytes is in
    record {
      given = given;
      loopless = settles form text o bytes is;
      clean = λ clean. absurd (no_report form o other given (ap has_report clean));
      faultless = λ has. absurd (no_report form o other given has);
    }

pub verify_promised : (command : Command) (mode : Mode) (rounds : Option ℕ) (text : List ℕ)
    (made : Result (Reply Outcome) OutOfMemory) →
    command ≡ Verify mode rounds →
    IfOk made (λ reply. Verified mode rounds text reply.outcome reply.bytes) →
    IfOk made (λ reply. is_finished reply.outcome ≡ true → FaultlessNeverBreaks text) →
    IfOk made (λ reply. IsPromised command text reply.outcome)
verify_promised command mode rounds text (Ok reply) is verified faultless =
    subst (λ (k : Command). IsPromised k text reply.outcome) (sym is)
    (by_verify mode rounds text reply.outcome reply.bytes verified faultless)
verify_promised command mode rounds text (Err e) is verified faultless = tt

pub form_promised : (command form : Command) (text : List ℕ)
    (made : Result (Reply Outcome) OutOfMemory) → command ≡ form →
    asks_verify form ≡ false → IfOk made (λ reply. Replied form text reply.outcome reply.bytes) →
    IfOk made (λ reply. IsPromised command text reply.outcome)
form_promised command form text (Ok reply) is other replied =
    subst (λ (k : Command). IsPromised k text reply.outcome) (sym is)
    (by_others form text reply.outcome reply.bytes other replied)
form_promised command form text (Err e) is other replied = tt
