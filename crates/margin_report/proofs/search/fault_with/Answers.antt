use Rattle.std.proofs.Common.{ap, arith}
use Rattle.scald_base.specs.Time.{period}
use Rattle.margin_report.proofs.Searching.{value_within}
use Rattle.margin_report.proofs.search.fault_with.Goals as goal

pub overflow_add-value : goal.overflow_add-value
overflow_add-value g c =
    let most = value_within (period c.args.c.now.header) c.args.checker.now.limits c.args.row.parameter c.args.more c.requires.within c.requires.more in
    let is = c.written.ensures in
    let same = ap period c.header.ensures in
    let longest = c.known.ensures.longest in
    omega (arith, most, is, same, longest)
