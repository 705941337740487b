use Rattle.scald_tool.proofs.OneAnswer.{verifier_lawful}
use Rattle.scald_tool.proofs.verifier.VerifierProgram.laws.Goals as goal

pub returns : goal.returns
returns c = verifier_lawful
