use Rattle.std.proofs.lemmas.Result.{on_ok_weaker}
use Rattle.drawing_tree.specs.Canonical.{connection_text}
use Rattle.netlist_import.specs.declared.netlist.Direction.TheVariants.{Input}
use Rattle.netlist_import.specs.Body.{connected, of_way}
use Rattle.netlist_import.proofs.Bracketed.{parentheses_after}
use Rattle.netlist_import.proofs.body.add_inputs.Goals as goal

pub returns-clause-text : goal.returns-clause-text
returns-clause-text c =
    on_ok_weaker c.push.result
    (λ e. parentheses_after connection_text (connected c.args.cell.now
    (of_way Input c.args.ports.now) c.args.nets.now).connections
    c.args.out.now c.extend.new.self c.add_ports.new.out c.push.new.self c.in_ok-extend.ensures.ok
    c.in_ok-add_ports.ensures.text e)
    c.push.ensures.ok
