use Rattle.std.proofs.Common.{◌-◌, true, false, not}
use Rattle.run_clauses.specs.declared.fact.Fact.TheVariants.{Net, Pin, Wire}
use Rattle.run_clauses.specs.Forms.{said}
use Rattle.run_clauses.proofs.Holding.{same_as, shows_same}
use Rattle.run_clauses.proofs.pins.add_shown.Goals as goal

pub loop-ticks-init : goal.loop-ticks-init
loop-ticks-init c bits is before = before

pub loop-ticks-preserved : goal.loop-ticks-preserved
loop-ticks-preserved c bits is before =
    let at = c.args.at in
    let ticks = c.loop-ticks.ticks in
    c.in_ok-push_same.ensures bits
    (same_as bits c.is_not-other.result c.is_not-other.result c.is.result c.at.result
    (said (Wire at.instance at.pin ticks) false) (said (Wire at.instance at.pin ticks) false)
    (said (Pin at.instance at.pin at.tick) true)
    (said (Net c.args.net (at.tick - ticks)) (not c.args.inverted))
    (cc) (cc) (cc) (cc) (shows_same bits at c.args.net ticks c.args.inverted is))
    (c.loop-ticks.invariant bits is before)
