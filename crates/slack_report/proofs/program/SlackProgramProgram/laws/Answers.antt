use Rattle.slack_report.proofs.Lawful.{slack_program_lawful}
use Rattle.slack_report.proofs.program.SlackProgramProgram.laws.Goals as goal

pub returns : goal.returns
returns c = slack_program_lawful
