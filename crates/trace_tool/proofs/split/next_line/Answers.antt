use Rattle.std.proofs.Common.{arith}
use Rattle.trace_tool.proofs.Cutting.{no_lines}
use Rattle.trace_tool.proofs.split.next_line.Goals as goal

pub returns : goal.returns
returns c =
    no_lines c.args.text.now (λ k below. c.loop-at.invariant k (omega (arith, below, c.loop-at-test.false)))
