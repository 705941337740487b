use Rattle.std.proofs.lemmas.Result.{on_ok_weaker}
use Rattle.drawing_tree.specs.Canonical.{connection_text}
use Rattle.netlist_import.specs.declared.netlist.Direction.TheVariants.{Output}
use Rattle.netlist_import.specs.Body.{connected, of_way}
use Rattle.netlist_import.proofs.Bracketed.{arrow_after}
use Rattle.netlist_import.proofs.body.add_outputs.Goals as goal

pub returns-clause-text : goal.returns-clause-text
returns-clause-text c =
    on_ok_weaker c.close_outputs.result
    (λ e. arrow_after connection_text (connected c.args.cell.now (of_way Output c.args.ports.now)
    c.args.nets.now).connections
    c.in_ok-is_some.is_some c.args.out.now c.add_ports.new.out c.close_outputs.new.out
    c.in_ok-is_some.ensures.some c.in_ok-is_some.ensures.text e)
    c.close_outputs.ensures
