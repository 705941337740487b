-- The laws of the verifier's replies, by which words and a text have one answer.
use Rattle.std.proofs.Common.{◌≡◌, ◌∙◌, ℕ, false, List, refl, ap, None}
use Rattle.scald_base.specs.declared.outcome.Outcome.{Outcome}
use Rattle.scald_base.specs.Outcome.{end_of}
use Rattle.program_call.specs.Program.{IsLawful}
use Rattle.program_call.proofs.Answering.{end_of_ended, one_answer}
use Rattle.scald_tool.specs.declared.words.Command.{Command}
use Rattle.scald_tool.specs.declared.words.Command.TheVariants.{Verify, Format, Upgrade, Bench}
use Rattle.scald_tool.specs.Words.{reads}
use Rattle.timing_analysis.specs.Case.{fault_count}
use Rattle.scald_tool.specs.Answer as answer
use Rattle.scald_tool.specs.Answer.{Replied, Measured, Reported, verifier}
use Rattle.program_call.proofs.Speaking.{evaluated_speaks, verdict_speaks}
use Rattle.scald_tool.specs.Laws.{OneAnswer}
use Rattle.scald_tool.proofs.Judgement.{one_reply}

-- ---- no reply is an end of the call

reply_speaks : (command : Command) (text : List ℕ) (o : Outcome) (bytes : List ℕ) → Replied command text o bytes → end_of o ≡ None
reply_speaks (Verify mode rounds) text o bytes r =
    evaluated_speaks (λ d. Reported mode d.version) rounds text o bytes
    (λ d c base cases o bytes is. ap end_of is.outcome ∙ verdict_speaks (fault_count c cases)) r
reply_speaks Format text _ _ (answer.undrawn r is) = refl
reply_speaks Format text _ _ (answer.drawn d draws) = refl
reply_speaks Upgrade text _ _ (answer.unreadable r is) = refl
reply_speaks Upgrade text _ _ (answer.readable d draws) = refl
reply_speaks (Bench sections) text o bytes r =
    evaluated_speaks (λ d. Measured sections) None _ o bytes
    (λ d c base cases o bytes is. ap end_of is.outcome) r

-- ---- what does not read does not look at the text

unread : (command : Command) (text other : List ℕ) (o : Outcome) (bytes : List ℕ) → reads command ≡ false → Replied command text o bytes → Replied command other o bytes
unread (Verify mode rounds) text other o bytes none r = absurd (cc)
unread Format text other o bytes none r = absurd (cc)
unread Upgrade text other o bytes none r = absurd (cc)
unread (Bench sections) text other o bytes none r = r

pub verifier_lawful : IsLawful verifier
verifier_lawful = record { ends = end_of_ended; replies = reply_speaks; one = one_reply; same = λ o bytes. (refl, refl); unread = unread }

pub words_have_one_answer : OneAnswer
words_have_one_answer = one_answer verifier verifier_lawful
