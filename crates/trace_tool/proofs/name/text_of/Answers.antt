use Rattle.std.proofs.Common.{◌∙◌, ap, sym}
use Rattle.flat_circuit.specs.Name.{Name}
use Rattle.flat_circuit.specs.Circuit.{net_name}
use Rattle.listing.proofs.Numbers.{name_past}
use Rattle.trace_tool.proofs.Nets.{name_there}
use Rattle.trace_tool.proofs.name.text_of.Goals as goal

pub returns-in-None : goal.returns-in-None
returns-in-None c = ap (λ (n : Name). n.text) (sym (name_past net_name c.args.c.now.nets c.args.net c.in-None.ensures))

pub returns-in-Some : goal.returns-in-Some
returns-in-Some c = c.as_slice.ensures ∙ ap (λ (n : Name). n.text) (sym (name_there c.args.c.now.nets c.args.net c.in-Some.net.now c.in-Some.ensures))
