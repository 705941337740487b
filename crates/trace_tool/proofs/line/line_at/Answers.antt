use Rattle.std.proofs.Common.{◌-◌, sym, arith}
use Rattle.flat_circuit.proofs.Numbered.{order_long}
use Rattle.trace_tool.proofs.Lines.{line_at_bits, line_at_delays, line_at_end, no_line}
use Rattle.trace_tool.proofs.line.line_at.Goals as goal

pub returns-then-instance-instance_count : goal.returns-then-instance-instance_count
returns-then-instance-instance_count c =
    let count = c.instance_count.ensures in
    sym (line_at_delays c.args.c.now (c.args.place - 1) c.args.place (omega (arith, c.if-place-eq0.false))
    (omega (arith, c.if-instance-instance_count.true)))

pub returns-in-Some : goal.returns-in-Some
returns-in-Some c =
    let count = c.instance_count-2.ensures in
    let first = c.instance_count.ensures in
    sym (line_at_bits c.args.c.now (c.args.place - 1 - c.instance_count-2.result) c.args.place c.in-Some.net
    (omega (arith, c.if-place-eq0.false, c.if-instance-instance_count.false)) (sym c.in-Some.ensures))

pub returns-then-at-net_count : goal.returns-then-at-net_count
returns-then-at-net_count c =
    let count = c.instance_count-2.ensures in
    let first = c.instance_count.ensures in
    let nets = c.net_count.ensures in
    let long = order_long c.args.c.now.nets c.args.c.now.order c.known.ensures.by_name in
    sym (line_at_end c.args.c.now c.args.place
    (omega (arith, c.if-place-eq0.false, c.if-instance-instance_count.false, c.if-at-net_count.true)))

pub returns-else-at-net_count : goal.returns-else-at-net_count
returns-else-at-net_count c =
    let count = c.instance_count-2.ensures in
    let first = c.instance_count.ensures in
    let nets = c.net_count.ensures in
    let long = order_long c.args.c.now.nets c.args.c.now.order c.known.ensures.by_name in
    sym (no_line c.args.c.now c.args.place (c.args.place - 1 - c.instance_count-2.result)
    (omega (arith, c.if-place-eq0.false, c.if-instance-instance_count.false)) (sym c.in-None.ensures)
    (λ same. c.if-at-net_count.false (omega (arith, same))))
