use Rattle.narrowing.proofs.Behind.{pins_more}
use Rattle.narrowing.proofs.cone.add_nets_of.Goals as goal

pub loop-pin-preserved : goal.loop-pin-preserved
loop-pin-preserved c =
    pins_more c.args.pins.now c.loop-pin.pin-index _ c.loop-pin.nets.items c.add_net_of.new.nets.items _
    c.loop-pin-test.true c.loop-pin.invariant c.in_ok-add_net_of.ensures
