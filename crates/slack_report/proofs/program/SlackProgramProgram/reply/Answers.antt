use Rattle.slack_report.specs.declared.request.Part.TheVariants.{Table, Paragraphs}
use Rattle.slack_report.proofs.Promised.{reply_is, reply_promised}
use Rattle.slack_report.proofs.program.SlackProgramProgram.reply.Goals as goal

pub returns-in-Table-clause-is : goal.returns-in-Table-clause-is
returns-in-Table-clause-is c =
    reply_is c.args.request Table c.args.text.now _ c.in-Table.is c.reply_to.ensures.is

pub returns-in-Table-clause-promised : goal.returns-in-Table-clause-promised
returns-in-Table-clause-promised c =
    reply_promised Table c.args.request.rounds c.args.text.now _ c.reply_to.ensures.is
    c.reply_to.ensures.faultless

pub returns-in-Paragraphs-clause-is : goal.returns-in-Paragraphs-clause-is
returns-in-Paragraphs-clause-is c =
    reply_is c.args.request Paragraphs c.args.text.now _ c.in-Paragraphs.is
    c.reply_to-in-Paragraphs.ensures.is

pub returns-in-Paragraphs-clause-promised : goal.returns-in-Paragraphs-clause-promised
returns-in-Paragraphs-clause-promised c =
    reply_promised Paragraphs c.args.request.rounds c.args.text.now _
    c.reply_to-in-Paragraphs.ensures.is
    c.reply_to-in-Paragraphs.ensures.faultless
