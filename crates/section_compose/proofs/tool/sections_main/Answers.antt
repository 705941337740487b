use Rattle.std.proofs.Common.{ap}
use Rattle.section_compose.specs.Promise.{speaks}
use Rattle.section_compose.proofs.Told.{clean_of}
use Rattle.section_compose.proofs.tool.sections_main.Goals as goal

pub returns-clause-clean : goal.returns-clause-clean
returns-clause-clean g c = clean_of c.args.words.now _ _ _ _ _ (λ clean. c.main_call.ensures.replied (ap speaks clean))
