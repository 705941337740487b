use Rattle.std.proofs.Common.{◌∙◌}
use Rattle.section_compose.specs.Globals.{is_driven}
use Rattle.section_compose.proofs.globals.is_driven_in.Goals as goal

pub returns-in-Some : goal.returns-in-Some
returns-in-Some c = c.is_driven.ensures ∙ c.in-Some.ensures.tells is_driven

pub returns-in-None : goal.returns-in-None
returns-in-None c = c.in-None.ensures.tells is_driven
