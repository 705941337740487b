use Rattle.std.proofs.Common.{map, slice_get}
use Rattle.std.proofs.lemmas.Result.{on_ok_weaker}
use Rattle.netlist_import.proofs.Written.{module_text}
use Rattle.netlist_import.proofs.body.add_macro.Goals as goal

pub returns : goal.returns
returns c =
    on_ok_weaker c.extend.result
    (λ e. module_text c.args.shape.now c.args.module.now
    (map (slice_get c.args.shapes.now) c.args.targets.now) c.args.nets.now
    c.as_slice.result.now c.as_slice-2.result.now c.taken_names.result.now
    c.args.out.now c.add_head.new.out c.add_body.new.out c.extend.new.self
    c.requires c.as_slice.ensures c.as_slice-2.ensures c.taken_names.ensures
    c.in_ok-add_head.ensures c.in_ok-add_body.ensures e)
    c.extend.ensures.ok
