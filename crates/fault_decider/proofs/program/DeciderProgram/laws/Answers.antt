use Rattle.fault_decider.proofs.Replying.{decider_lawful}
use Rattle.fault_decider.proofs.program.DeciderProgram.laws.Goals as goal

pub returns : goal.returns
returns c = decider_lawful
