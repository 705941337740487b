use Rattle.std.proofs.Common.{◌∙◌, ap, sym}
use Rattle.trace_tool.specs.Trace.{net_line}
use Rattle.trace_tool.proofs.Digits.{digits_are, digits_behind, digits_count}
use Rattle.trace_tool.proofs.read.read_bits.Goals as goal

pub returns-then-digits-ticks : goal.returns-then-digits-ticks
returns-then-digits-ticks c = λ row each is.
    let digits = c.past-digits.result.now in
    let are =
    digits_behind c.args.c.now c.args.net c.in_ok-length.length row c.args.line.now digits is c.in_ok-length.ensures c.past-digits.ensures in
    c.if-digits-ticks.true (digits_count row digits are ∙ each)

pub returns-then-not-branch : goal.returns-then-not-branch
returns-then-not-branch c = λ row each is.
    let digits = c.past-digits.result.now in
    let are =
    digits_behind c.args.c.now c.args.net c.in_ok-length.length row c.args.line.now digits is c.in_ok-length.ensures c.past-digits.ensures in
    (rw c.if-not-branch.true at c.in_ok-is_net_line.ensures)
    (is ∙ ap (net_line c.args.c.now c.args.net) (sym (c.as_slice.ensures ∙ c.in_ok-row.ensures ∙ digits_are row digits are)))
