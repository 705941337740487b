-- What is promised of a reply, as the clauses of the whole call have it.
use Rattle.std.proofs.Common.{◌≡◌, ℕ, List, true, refl, subst, ap, ◌∙◌, IfSome, Result}
use Rattle.std.proofs.Common.{Option, Some, None}
use Rattle.scald_base.specs.declared.outcome.Outcome.{Outcome}
use Rattle.scald_base.specs.declared.outcome.Outcome.TheVariants.{Clean, Faulty, Done, Refused}
use Rattle.scald_base.specs.declared.outcome.Outcome.TheVariants.{Unsettled, BadWords, TooLong}
use Rattle.scald_base.specs.declared.outcome.Outcome.TheVariants.{ReadFault, WriteFault, NoMemory}
use Rattle.program_call.specs.Program.{IsReplied}
use Rattle.program_call.proofs.Answering.{read_whole, told_all}
use Rattle.scald_tool.specs.declared.words.Command.{Command}
use Rattle.scald_tool.specs.declared.words.Command.TheVariants.{Verify, Format, Upgrade, Bench}
use Rattle.scald_tool.specs.Words.{command_of, reads}
use Rattle.scald_tool.specs.Answer.{most_bytes, verifier}
use Rattle.scald_tool.specs.Promise.{AreTold, SettlesWithoutLoops, has_report, may_give, may_answer}
use Rattle.scald_tool.specs.Promise.{speaks, unlimited}
use Rattle.scald_tool.specs.Kept.{IsPromised}
use Rattle.scald_tool.proofs.OneAnswer.{verifier_lawful}

-- only `verify` gives a report
report_reads : (command : Command) (o : Outcome) → may_give command o ≡ true → has_report o ≡ true →
    reads command ≡ true
report_reads (Verify mode rounds) o gives has = refl
report_reads Format o gives has = refl
report_reads Upgrade o gives has = refl
report_reads (Bench n) Clean gives has = absurd (cc)
report_reads (Bench n) (Faulty k) gives has = absurd (cc)
report_reads (Bench n) Done gives has = absurd (cc)
report_reads (Bench n) (Refused r) gives has = absurd (cc)
report_reads (Bench n) (Unsettled place round) gives has = absurd (cc)
report_reads (Bench n) (BadWords i) gives has = absurd (cc)
report_reads (Bench n) TooLong gives has = absurd (cc)
report_reads (Bench n) ReadFault gives has = absurd (cc)
report_reads (Bench n) WriteFault gives has = absurd (cc)
report_reads (Bench n) NoMemory gives has = absurd (cc)

-- a report speaks of its text
pub report_speaks : (o : Outcome) → has_report o ≡ true → speaks o ≡ true
report_speaks Clean has = refl
report_speaks (Faulty n) has = refl
report_speaks Done has = absurd (cc)
report_speaks (Refused r) has = absurd (cc)
report_speaks (Unsettled place round) has = absurd (cc)
report_speaks (BadWords i) has = absurd (cc)
report_speaks TooLong has = absurd (cc)
report_speaks ReadFault has = absurd (cc)
report_speaks WriteFault has = absurd (cc)
report_speaks NoMemory has = absurd (cc)

module _ (words : List (List ℕ)) (left left' taken taken' : Option (List ℕ)) (o : Outcome) where
  abbrev IsWritten : Type 0
  IsWritten = IsReplied verifier IsPromised words left left' o taken taken'

  -- the form that an outcome comes of
  pub given_by : IsWritten → may_answer (command_of words) o ≡ true
  given_by r = ap (λ (read : Result Command ℕ). may_answer read o) r.reply.form ∙ r.kept.given

  -- what is promised of the text that was read is true of the text that is told
  pub of_report : (given : Type 0) (P : List ℕ → Type 0) → (given → IsWritten) →
      (given → has_report o ≡ true) → ((r : IsWritten) → given → P r.reply.text) →
      IfSome left (λ text. given → P text)
  of_report given P replied has holds = by_left left (λ text told h. go text told h (replied h))
    where
      by_left : (l : Option (List ℕ)) → ((text : List ℕ) → l ≡ Some text → given → P text) →
          IfSome l (λ text. given → P text)
      by_left None f = tt
      by_left (Some text) f = f text refl

      go : (text : List ℕ) → left ≡ Some text → given → IsWritten → P text
      go text told h r = subst P
          (read_whole left left' most_bytes r.reply.text text
          (r.reply.read (report_reads r.reply.command o r.kept.given (has h))) told) (holds r h)

  unlimited_by : (k : Command) (read text : List ℕ) → (reads k ≡ true → read ≡ text) →
      unlimited k read ≡ unlimited k text
  unlimited_by (Verify mode rounds) read text same = ap (unlimited (Verify mode rounds)) (same refl)
  unlimited_by Format read text same = refl
  unlimited_by Upgrade read text same = refl
  unlimited_by (Bench n) read text same = refl

  pub loopless : (text : List ℕ) → AreTold words left text → (speaks o ≡ true → IsWritten) →
      SettlesWithoutLoops words text o
  loopless text told replied = λ k evaluated place round asked free less still.
      let r : IsWritten = replied (ap speaks still) in
      let one : k ≡ r.reply.command = cc (r.reply.form, asked) in
      let free' : unlimited r.reply.command text ≡ Some evaluated =
      subst (λ (z : Command). unlimited z text ≡ Some evaluated) one free in
      let same = told_all verifier verifier_lawful words left left' text o r.bytes told r.reply in
      r.kept.loopless evaluated place round
      (unlimited_by r.reply.command r.reply.text text same ∙ free') less still
