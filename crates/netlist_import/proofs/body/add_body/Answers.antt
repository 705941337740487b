use Rattle.std.proofs.lemmas.Result.{on_ok_weaker}
use Rattle.netlist_import.proofs.Written.{body_text}
use Rattle.netlist_import.proofs.body.add_body.Goals as goal

pub returns : goal.returns
returns c =
    on_ok_weaker c.add_buffer_part.result
    (λ e. body_text c.args.module.now c.args.targets.now c.as_slice.result.now c.args.shapes.now
    c.args.nets.now c.add_cell_part.new.nets c.add_cell_part.new.labels c.args.out.now
    c.add_cell_part.new.out c.add_buffer_part.new.out c.requires c.as_slice.ensures
    c.in_ok-add_cell_part.ensures.labels c.in_ok-add_cell_part.ensures.text
    c.in_ok-add_cell_part.ensures.nets e)
    c.add_buffer_part.ensures
