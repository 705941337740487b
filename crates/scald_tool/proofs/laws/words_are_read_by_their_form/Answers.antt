use Rattle.scald_tool.proofs.Forming.{words_are_read, words_are_known}
use Rattle.scald_tool.proofs.laws.words_are_read_by_their_form.Goals as goal

pub returns-clause-read : goal.returns-clause-read
returns-clause-read c = words_are_read

pub returns-clause-known : goal.returns-clause-known
returns-clause-known c = words_are_known
