use Rattle.std.proofs.lemmas.Result.{on_ok_weaker}
use Rattle.netlist_import.proofs.Written.{buffer_text}
use Rattle.netlist_import.proofs.outlets.add_buffer.Goals as goal

pub returns : goal.returns
returns c =
    on_ok_weaker c.extend-5.result
    (λ e. buffer_text c.args.nets.now.list c.args.label.now c.args.outlet c.args.out.now
    c.extend.new.self c.extend-2.new.self c.extend-3.new.self
    c.add_connection.new.out c.extend-4.new.self c.add_connection-2.new.out c.extend-5.new.self
    c.in_ok-extend.ensures.ok c.in_ok-extend-2.ensures.ok c.in_ok-extend-3.ensures.ok
    c.in_ok-add_connection.ensures
    c.in_ok-extend-4.ensures.ok c.in_ok-add_connection-2.ensures e)
    c.extend-5.ensures.ok
