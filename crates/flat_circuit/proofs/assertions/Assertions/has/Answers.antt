use Rattle.std.proofs.Common.{◌∙◌, ap, List}
use Rattle.flat_circuit.specs.Builder.{Asserted, has_text}
use Rattle.flat_circuit.proofs.Tables.{has_spec}
use Rattle.flat_circuit.proofs.assertions.Assertions.has.Goals as goal

pub returns : goal.returns
returns c = c.contains_key.ensures ∙ has_spec c.self.inside.by_text.entries c.args.text.now ∙ ap (λ (given : List Asserted). has_text given c.args.text.now) c.self.view_is
