use Rattle.std.proofs.Common.{Option, ap, ◌∙◌}
use Rattle.element_kinds.specs.declared.form.Check.{Check}
use Rattle.macro_expander.specs.Primitives.{limits_for}
use Rattle.macro_expander.proofs.primitive.limits_of.Goals as goal

pub returns-in-None : goal.returns-in-None
returns-in-None c =
    ap (λ (check : Option Check). limits_for c.args.period check c.args.given.now) c.in-None.ensures

pub returns-in-Some : goal.returns-in-Some
returns-in-Some c =
    c.limits_for.ensures
    ∙ ap (λ (check : Option Check). limits_for c.args.period check c.args.given.now)
    c.in-Some.ensures
