use Rattle.std.proofs.Common.{ap, ◌∙◌}
use Rattle.element_kinds.specs.Kinds.{is_of_pulses}
use Rattle.element_kinds.proofs.Forms.{of_form}
use Rattle.element_kinds.proofs.kind.Kind.checks_pulses.Goals as goal

pub returns : goal.returns
returns c = c.is_of_pulses.ensures ∙ ap is_of_pulses c.form.ensures ∙ of_form is_of_pulses c.args.self
