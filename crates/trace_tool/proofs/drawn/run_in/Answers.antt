use Rattle.std.proofs.Common.{◌≡◌, ◌*◌, ◌∙◌, length, arith}
use Rattle.trace_tool.proofs.Replying.{big_reply, done_reply}
use Rattle.trace_tool.proofs.drawn.run_in.Goals as goal

pub returns-then-from-gt-MOST_BITS : goal.returns-then-from-gt-MOST_BITS
returns-then-from-gt-MOST_BITS c =
    let nets = c.net_count.ensures in
    let first = c.from.ensures in
    let second = c.from-2.ensures in
    let product : c.from.result * c.from-2.result ≡ length c.args.c.now.nets * c.args.asked.ticks = cc in
    big_reply c.args.asked c.args.name.now c.args.c.now c.args.values.now c.silent.result.outcome c.silent.result.bytes (omega (arith, product))
    c.silent.ensures.outcome c.silent.ensures.bytes

pub returns : goal.returns
returns c =
    let nets = c.net_count.ensures in
    let first = c.from.ensures in
    let second = c.from-2.ensures in
    let product : c.from.result * c.from-2.result ≡ length c.args.c.now.nets * c.args.asked.ticks = cc in
    done_reply c.args.asked c.args.name.now c.args.c.now c.args.values.now c.in_ok-trace.trace c.whole.result (omega (arith, product))
    c.in_ok-trace.ensures (c.whole.ensures ∙ c.in_ok-bytes.ensures)
