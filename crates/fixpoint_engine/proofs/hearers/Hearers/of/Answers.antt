use Rattle.std.proofs.Common.{◌∙◌, sym}
use Rattle.fixpoint_engine.proofs.Rows.{hearers_none}
use Rattle.fixpoint_engine.proofs.hearers.Hearers.of.Goals as goal

pub loop-net-init : goal.loop-net-init
loop-net-init c = hearers_none c.args.c.now c.args.classes.now c.in_ok-rows.rows.items c.net_count.result c.in_ok-rows.ensures (c.net_count.ensures ∙ sym c.requires)
