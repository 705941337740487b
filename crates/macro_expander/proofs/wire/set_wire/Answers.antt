use Rattle.std.proofs.Common.{◌<◌, subst}
use Rattle.flat_circuit.specs.Instances.{TargetExists}
use Rattle.macro_expander.specs.Numbered.{nets_in}
use Rattle.macro_expander.proofs.WireBounds.{wire_set}
use Rattle.macro_expander.proofs.wire.set_wire.Goals as goal

pub returns-in-Net : goal.returns-in-Net
returns-in-Net c =
    let below : c.in-Net.net < nets_in c.args.expansion.now = subst (TargetExists (nets_in c.args.expansion.now)) c.in-Net.is c.requires in
    rw c.in-Net.is (wire_set c.args.expansion.now c.wire.new.self c.in-Net.net c.args.wire c.known.ensures below c.wire.ensures)
