use Rattle.std.proofs.lemmas.Result.{on_ok_weaker}
use Rattle.netlist_import.proofs.Claims.{nets_added}
use Rattle.netlist_import.proofs.nets.Nets.add_own.Goals as goal

pub returns : goal.returns
returns c =
    on_ok_weaker c.add_nets.result
    (λ e. nets_added c.args.module.now c.args.self.now c.add_ports.new.self c.add_nets.new.self
    c.as_slice.result.now c.len.result c.as_slice-2.result.now c.requires
    c.as_slice.ensures c.len.ensures c.as_slice-2.ensures c.in_ok-add_ports.ensures e)
    c.add_nets.ensures
