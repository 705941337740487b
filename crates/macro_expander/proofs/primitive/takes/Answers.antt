use Rattle.std.proofs.Common.{Option, ap, ◌∙◌}
use Rattle.std.specs.List.{list_any}
use Rattle.std.specs.Str.{bytes_eq}
use Rattle.element_kinds.specs.declared.form.Check.{Check}
use Rattle.macro_expander.specs.Primitives.{parameters_for}
use Rattle.macro_expander.proofs.primitive.takes.Goals as goal

pub returns-in-None : goal.returns-in-None
returns-in-None c =
    ap (λ (check : Option Check). list_any (bytes_eq c.args.name.now) (parameters_for check))
    c.in-None.ensures

pub returns-in-Some : goal.returns-in-Some
returns-in-Some c =
    c.takes_for.ensures
    ∙ ap (λ (check : Option Check). list_any (bytes_eq c.args.name.now) (parameters_for check))
    c.in-Some.ensures
