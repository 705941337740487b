use Rattle.section_compose.proofs.OneAnswer.{composer_lawful}
use Rattle.section_compose.proofs.program.ComposerProgram.laws.Goals as goal

pub returns : goal.returns
returns c = composer_lawful
