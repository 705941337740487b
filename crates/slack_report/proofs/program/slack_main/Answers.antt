use Rattle.slack_report.proofs.Promised.{ends_by_limits, is_given, of_told, settles_unlimited}
use Rattle.slack_report.proofs.program.slack_main.Goals as goal

pub returns-clause-finished : goal.returns-clause-finished
returns-clause-finished g c text told read written =
    ends_by_limits c.args.words.now text _ _ _
    (c.main_call.ensures.whole text told (λ asks. read) written)

pub returns-clause-given : goal.returns-clause-given
returns-clause-given g c spoken =
    let replied = c.main_call.ensures.replied spoken in
    is_given replied.reply.command replied.reply.text _ replied.bytes replied.reply.is

pub returns-clause-loopless : goal.returns-clause-loopless
returns-clause-loopless g c text told =
    settles_unlimited c.args.words.now text _ _ _
    (λ spoken. c.main_call.ensures.truthful text told spoken)

pub returns-clause-clean : goal.returns-clause-clean
returns-clause-clean g c =
    of_told c.args.words.now _ _ _ _ _ (λ spoken. c.main_call.ensures.replied spoken)
