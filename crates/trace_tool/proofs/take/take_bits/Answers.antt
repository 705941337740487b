use Rattle.trace_tool.proofs.Taken.{bits_refused}
use Rattle.trace_tool.proofs.take.take_bits.Goals as goal

pub returns-in-None : goal.returns-in-None
returns-in-None c = λ e.
    bits_refused e c.args.c.now c.args.trace.now c.args.line.now c.args.net (rw c.in-None.is at c.in_ok-read_bits.ensures)
