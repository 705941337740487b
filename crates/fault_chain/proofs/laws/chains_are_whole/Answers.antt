use Rattle.fault_chain.proofs.Whole.{chains_are_whole}
use Rattle.fault_chain.proofs.laws.chains_are_whole.Goals as goal

pub returns : goal.returns
returns c = chains_are_whole
