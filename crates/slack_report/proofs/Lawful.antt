-- Each reply speaks of the text, whatever stands between the first line of the answer and the last.
use Rattle.std.proofs.Common.{◌≡◌, ◌∙◌, ℕ, List, ap, sym, refl, None}
use Rattle.scald_base.specs.declared.outcome.Outcome.{Outcome}
use Rattle.scald_base.specs.Outcome.{end_of}
use Rattle.program_call.specs.Answer.{Evaluated}
use Rattle.program_call.specs.Program.{IsLawful}
use Rattle.program_call.proofs.Answering.{end_of_ended}
use Rattle.program_call.proofs.Outcomes.{HoldsOfReports}
use Rattle.program_call.proofs.Speaking.{evaluated_speaks, verdict_speaks}
use Rattle.slack_report.specs.declared.request.Part.{Part}
use Rattle.slack_report.specs.declared.request.Request.{Request}
use Rattle.slack_report.specs.Answer.{slack_program, slacks_of}

slacks_speak : (part : Part) → HoldsOfReports (λ o. end_of o ≡ None) (slacks_of part)
slacks_speak part d c base cases o bytes is = ap end_of is.outcome ∙ verdict_speaks is.broken

reply_speaks : (request : Request) (text : List ℕ) (o : Outcome) (bytes : List ℕ) →
    Evaluated (slacks_of request.part) request.rounds text o bytes → end_of o ≡ None
reply_speaks request text o bytes =
    evaluated_speaks (slacks_of request.part) request.rounds text o bytes
    (slacks_speak request.part)

pub slack_program_lawful : IsLawful slack_program
slack_program_lawful = record {
  ends = end_of_ended;
  replies = reply_speaks;
  one = λ (request : Request) text o o' bytes bytes' is is'.
      reply_speaks request text o bytes is
      ∙ sym (reply_speaks request text o' bytes' is');
  same = λ o bytes. refl;
  unread = λ request text other o bytes none is. absurd (cc);
}
