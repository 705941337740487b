use Rattle.std.proofs.Common.{◌+◌, ◌-◌, ◌/◌, arith, sym, ◌∙◌}
use Rattle.trace_tool.proofs.Searching.{goes_down, goes_up}
use Rattle.trace_tool.proofs.variable.first_from.Goals as goal

pub loop-low-preserved-then-precedes : goal.loop-low-preserved-then-precedes
loop-low-preserved-then-precedes c =
    let ordered = c.loop-low.invariant.ordered in
    let within = c.loop-low.invariant.within in
    let some = c.loop-low-test.true in
    record {
      ordered = omega (arith, some);
      within = within;
      before = λ k below. goes_down c.args.c.now c.args.text.now k (c.loop-low.low + (c.loop-low.high - c.loop-low.low) / 2) c.known.ensures
          (omega arith) (omega (arith, within, some)) (sym c.precedes.ensures ∙ c.if-precedes.true);
      after = c.loop-low.invariant.after;
    }

pub loop-low-preserved : goal.loop-low-preserved
loop-low-preserved c =
    let ordered = c.loop-low.invariant.ordered in
    let within = c.loop-low.invariant.within in
    let some = c.loop-low-test.true in
    record {
      ordered = omega (arith, some);
      within = omega (arith, within, some);
      before = c.loop-low.invariant.before;
      after = λ k from below. goes_up c.args.c.now c.args.text.now (c.loop-low.low + (c.loop-low.high - c.loop-low.low) / 2) k c.known.ensures
          from below (sym c.precedes.ensures ∙ c.if-precedes.false);
    }
