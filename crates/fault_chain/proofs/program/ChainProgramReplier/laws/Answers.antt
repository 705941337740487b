use Rattle.program_call.proofs.Speaking.{reporting_is_lawful}
use Rattle.fault_chain.specs.Answer.{chains_of, own_word}
use Rattle.fault_chain.proofs.Promised.{chains_are_one, chains_speak}
use Rattle.fault_chain.proofs.program.ChainProgramReplier.laws.Goals as goal

pub returns : goal.returns
returns c = reporting_is_lawful own_word chains_of chains_speak chains_are_one
