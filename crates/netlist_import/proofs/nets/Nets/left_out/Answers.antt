use Rattle.std.proofs.Common.{arith}
use Rattle.netlist_import.proofs.Claims.{left_both, left_end, left_more, list_at}
use Rattle.netlist_import.proofs.nets.Nets.left_out.Goals as goal

pub loop-index-preserved : goal.loop-index-preserved
loop-index-preserved c = record {
  within = omega arith;
  bits = left_more c.in_ok-net.net c.loop-index.index (list_at c.in_ok-net.net c.args.width)
      c.loop-index.wires c.push.new.self
      c.loop-index-test.true c.loop-index.invariant.bits c.in_ok-push.ensures.ok;
}

pub returns : goal.returns
returns c =
    left_both c.in_ok-net.net c.args.width c.args.self.now c.add_undriven.new.self
    c.loop-index.wires c.in_ok-net.ensures.net c.in_ok-net.ensures.nets
    (left_end c.in_ok-net.net c.loop-index.index (list_at c.in_ok-net.net c.args.width)
    c.loop-index.wires c.loop-index-test.false c.loop-index.invariant.bits)
