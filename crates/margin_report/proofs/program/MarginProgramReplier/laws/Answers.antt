use Rattle.program_call.proofs.Speaking.{reporting_is_lawful}
use Rattle.margin_report.specs.Answer.{margins_of, own_word}
use Rattle.margin_report.proofs.Promised.{margins_are_one, margins_speak}
use Rattle.margin_report.proofs.program.MarginProgramReplier.laws.Goals as goal

pub returns : goal.returns
returns c = reporting_is_lawful own_word margins_of margins_speak margins_are_one
