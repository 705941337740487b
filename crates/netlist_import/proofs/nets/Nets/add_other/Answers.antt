use Rattle.std.proofs.Common.{◌∙◌, ap}
use Rattle.netlist_import.specs.Nets.{wire_of}
use Rattle.netlist_import.specs.declared.nets.Nets.{Nets}
use Rattle.netlist_import.specs.declared.nets.Wire.{Wire}
use Rattle.netlist_import.proofs.Claims.{other_added}
use Rattle.netlist_import.proofs.nets.Nets.add_other.Goals as goal

pub call-requires : goal.call-requires
call-requires c =
    ap (λ (s : Nets). wire_of c.args.number s.wires) c.in_ok-net.ensures.nets ∙ c.requires

pub returns-clause-nets : goal.returns-clause-nets
returns-clause-nets c =
    let wire : Wire = record { net = c.in_ok-net.net; index = 0 } in
    other_added c.args.self.now c.add.new.self c.args.number c.in_ok-wanted.wanted
    c.call.new.self wire c.in_ok-net.ensures.nets c.in_ok-wanted.ensures.copied
    (ap (λ n. record { net = n; index = 0 }) c.in_ok-net.ensures.net) c.in_ok-call.ensures
