use Rattle.std.proofs.Common.{◌≡◌, ◌+◌, ◌∙◌, length, sym, arith}
use Rattle.flat_circuit.proofs.Counts.{length_few}
use Rattle.flat_circuit.proofs.Numbered.{order_long}
use Rattle.trace_tool.proofs.Lines.{line_count_is}
use Rattle.trace_tool.proofs.line.line_count.Goals as goal

pub overflow_add-result : goal.overflow_add-result
overflow_add-result c =
    let few = length_few c.args.c.now.instances c.known.ensures.few in
    omega (arith, few, c.known.ensures.few_nets, c.instance_count.ensures, c.net_count.ensures)

pub overflow_add-result-2 : goal.overflow_add-result-2
overflow_add-result-2 c =
    let few = length_few c.args.c.now.instances c.known.ensures.few in
    omega (arith, few, c.known.ensures.few_nets, c.instance_count.ensures, c.net_count.ensures)

pub returns : goal.returns
returns c =
    let long = order_long c.args.c.now.nets c.args.c.now.order c.known.ensures.by_name in
    let counted = c.instance_count.ensures in
    let nets = c.net_count.ensures in
    let sum : c.instance_count.result + c.net_count.result + 2 ≡ length c.args.c.now.instances + length c.args.c.now.order + 2 = omega arith in
    sum ∙ sym (line_count_is c.args.c.now)
