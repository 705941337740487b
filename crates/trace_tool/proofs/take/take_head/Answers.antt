use Rattle.trace_tool.proofs.Taken.{head_refused, head_taken}
use Rattle.trace_tool.proofs.take.take_head.Goals as goal

pub returns-in-None : goal.returns-in-None
returns-in-None c = λ circuit long.
    head_refused c.args.extent circuit c.args.trace.now c.args.line.now c.in-None.ensures

pub returns-in-Some : goal.returns-in-Some
returns-in-Some c = λ circuit long.
    let head = c.in-Some.ensures in
    head_taken c.args.extent circuit c.args.trace.now c.args.line.now c.in-Some.ticks long head.0 head.1 head.2
