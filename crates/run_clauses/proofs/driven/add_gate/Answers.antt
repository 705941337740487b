use Rattle.std.proofs.Common.{◌-◌, true, false}
use Rattle.run_clauses.specs.declared.fact.Fact.TheVariants.{Delay, Lasts, Own}
use Rattle.run_clauses.specs.Forms.{out_said, said}
use Rattle.run_clauses.proofs.Holding.{gate_same, same_as}
use Rattle.run_clauses.proofs.driven.add_gate.Goals as goal

pub loop-ticks-init : goal.loop-ticks-init
loop-ticks-init c bits is before = before

pub loop-ticks-preserved : goal.loop-ticks-preserved
loop-ticks-preserved c bits is before =
    let net = c.args.net in
    let ticks = c.loop-ticks.ticks in
    c.in_ok-push_same.ensures bits
    (same_as bits c.is_past.result c.is_not-other.result c.out.result c.is.result
    (said (Lasts net.tick) false) (said (Delay net.instance ticks) false) (out_said net true)
    (said (Own net.instance (net.tick - ticks)) true) (cc) (cc) (cc) (cc)
    (gate_same bits net ticks is))
    (c.loop-ticks.invariant bits is before)
