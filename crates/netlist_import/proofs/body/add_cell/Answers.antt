use Rattle.std.proofs.lemmas.Result.{on_ok_weaker}
use Rattle.netlist_import.proofs.Written.{cell_use_nets, cell_use_text}
use Rattle.netlist_import.proofs.body.add_cell.Goals as goal

pub returns-clause-text : goal.returns-clause-text
returns-clause-text c =
    on_ok_weaker c.extend.result
    (λ e. cell_use_text c.args.cell.now c.args.label.now c.args.shape.now c.as_slice-2.result.now
    c.as_slice-3.result.now c.args.nets.now c.add_inputs.new.nets
    c.as_slice.result.now c.args.out.now c.add_use_head.new.out c.add_inputs.new.out
    c.add_outputs.new.out c.extend.new.self
    c.as_slice.ensures c.as_slice-2.ensures c.as_slice-3.ensures
    c.in_ok-add_use_head.ensures c.in_ok-add_inputs.ensures.text c.in_ok-add_inputs.ensures.nets
    c.in_ok-add_outputs.ensures.text e)
    c.extend.ensures.ok

pub returns-clause-nets : goal.returns-clause-nets
returns-clause-nets c =
    on_ok_weaker c.extend.result
    (λ e. cell_use_nets c.args.cell.now c.args.label.now c.args.shape.now c.as_slice-2.result.now
    c.as_slice-3.result.now c.args.nets.now c.add_inputs.new.nets
    c.add_outputs.new.nets c.as_slice-2.ensures c.as_slice-3.ensures c.in_ok-add_inputs.ensures.nets
    c.in_ok-add_outputs.ensures.nets)
    c.extend.ensures.ok
