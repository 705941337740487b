use Rattle.std.proofs.lemmas.Result.{on_ok_weaker}
use Rattle.drawing_tree.specs.Canonical.{formal_text}
use Rattle.netlist_import.specs.declared.netlist.Direction.TheVariants.{Input, Output}
use Rattle.netlist_import.specs.Body.{formals_named}
use Rattle.netlist_import.proofs.Bracketed.{arrow_after, parentheses_after}
use Rattle.netlist_import.proofs.Written.{head_text}
use Rattle.netlist_import.proofs.head.add_head.Goals as goal

pub returns : goal.returns
returns c =
    let ins = formals_named Input c.args.ports.now c.args.names.now in
    let outs = formals_named Output c.args.ports.now c.args.names.now in
    on_ok_weaker c.extend-4.result
    (λ e. head_text c.args.name.now ins outs c.args.out.now c.extend.new.self c.extend-2.new.self
    c.push.new.self c.close_outputs.new.out c.extend-4.new.self
    c.in_ok-extend.ensures.ok c.in_ok-extend-2.ensures.ok
    (parentheses_after formal_text ins c.extend-2.new.self c.extend-3.new.self c.add_formals.new.out
    c.push.new.self
    c.in_ok-extend-3.ensures.ok c.in_ok-add_formals.ensures.text c.in_ok-push.ensures.ok)
    (arrow_after formal_text outs c.in_ok-is_some.is_some c.push.new.self
    c.add_formals-2.new.out c.close_outputs.new.out
    c.in_ok-is_some.ensures.some c.in_ok-is_some.ensures.text c.in_ok-close_outputs.ensures)
    e)
    c.extend-4.ensures.ok
