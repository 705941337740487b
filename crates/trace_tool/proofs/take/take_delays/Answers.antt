use Rattle.std.proofs.Common.{sym}
use Rattle.trace_tool.proofs.Taken.{delays_refused}
use Rattle.trace_tool.proofs.take.take_delays.Goals as goal

pub returns-in-None : goal.returns-in-None
returns-in-None c = λ e.
    delays_refused e c.args.c.now c.args.trace.now c.args.line.now c.args.k c.in-Some.i.now (sym c.in-Some.ensures)
    (rw c.in-None.is at c.in_ok-read_delays.ensures)
