use Rattle.std.proofs.Common.{◌++◌, List, ℕ, ap, ◌∙◌, arith}
use Rattle.trace_tool.specs.Change.{digit_text}
use Rattle.trace_tool.proofs.Levels.{digit_less}
use Rattle.trace_tool.proofs.level.add_levels.Goals as goal

pub loop-left-preserved : goal.loop-left-preserved
loop-left-preserved c = record {
  all = digit_less c.args.c.now c.args.rows.now c.args.tick c.args.s.from c.loop-left.left c.loop-left.out c.push.new.self
      (digit_text c.level.result) _ (let some = c.loop-left-test.true in omega arith) (ap digit_text c.level.ensures)
      (c.in_ok-push.ensures.ok ∙ ap (λ (d : List ℕ). c.loop-left.out ++ d) c.digit.ensures) c.loop-left.invariant.all;
  within = let within = c.loop-left.invariant.within in omega arith;
}
