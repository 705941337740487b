use Rattle.trace_sim.specs.Choice.{choices_of}
use Rattle.trace_sim.specs.Making.{pass as passed}
use Rattle.trace_sim.proofs.Steps.{pass_more, rows_stay}
use Rattle.trace_sim.proofs.making.pass.Goals as goal

pub loop-k-preserved : goal.loop-k-preserved
loop-k-preserved c = record {
  made = λ ticks.
      pass_more c.args.c.now ticks (choices_of c.args.choice.now) c.args.t c.args.order.now c.loop-k.k-index _ c.loop-k.bits c.evaluate.new.bits
      (passed c.args.c.now ticks (choices_of c.args.choice.now) c.args.t c.args.order.now c.args.bits.now) c.loop-k-test.true (c.in_ok-evaluate.ensures.made ticks) (c.loop-k.invariant.made ticks);
  rows =
      rows_stay c.args.c.now (choices_of c.args.choice.now) c.loop-k.bits c.evaluate.new.bits c.args.rows.now c.args.t
      c.in_ok-evaluate.ensures.before c.loop-k.invariant.rows;
}
