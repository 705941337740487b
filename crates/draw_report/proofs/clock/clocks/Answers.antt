use Rattle.std.proofs.Common.{◌+◌, sym, subst, arith}
use Rattle.draw_report.proofs.Clocks.{AreMarked, all_marked, none_marked, one_marked, past_end}
use Rattle.draw_report.proofs.clock.clocks.Goals.{in-Some, in_default}
use Rattle.draw_report.proofs.clock.clocks.Goals as goal

pub loop-number-init : goal.loop-number-init
loop-number-init c =
    none_marked c.args.c.now c.in_ok-clocks.clocks c.in_ok-clocks.ensures.long
    c.in_ok-clocks.ensures.each

pub loop-number-preserved : goal.loop-number-preserved
loop-number-preserved c =
    elim c.match-instance.branch as (λ _. AreMarked c.args.c.now (c.loop-number.number + 1)
    c.match-instance.clocks) [
      | in-Some w ↦
          subst (AreMarked c.args.c.now (c.loop-number.number + 1)) (sym w.clocks-is)
          (one_marked c.args.c.now c.loop-number.number w.in-Some.instance.now c.loop-number.clocks
          w.add_clock_of.new.clocks w.in-Some.ensures (omega arith) c.loop-number.invariant
          w.add_clock_of.ensures.long w.add_clock_of.ensures.each)
      | in_default w ↦
          let past = past_end c.args.c.now.instances c.loop-number.number w.in_default.ensures in
          absurd (omega (arith, past))
    ]

pub returns : goal.returns
returns c =
    all_marked c.args.c.now c.loop-number.number c.loop-number.clocks (omega arith)
    c.loop-number.invariant
