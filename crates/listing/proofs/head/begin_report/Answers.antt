use Rattle.std.proofs.Common.{◌++◌}
use Rattle.scald_base.proofs.Device.{at_err}
use Rattle.listing.specs.Head.{counts_line, period_line, stable_lines}
use Rattle.listing.proofs.Parts.{both, part_first, part_second, err_second}
use Rattle.listing.proofs.head.begin_report.Goals as goal

pub returns-in_err-write_period-clause-err : goal.returns-in_err-write_period-clause-err
returns-in_err-write_period-clause-err c =
    let d = c.args.c.now in
    let old = c.args.out.now in
    at_err c.from_residual.result
    (part_first old c.write_period.new.out (period_line c.args.version d ++ counts_line d) (stable_lines d)
    (part_first old c.write_period.new.out (period_line c.args.version d) (counts_line d) c.in_err-write_period.ensures.err))

pub returns-in_err-add_counts-clause-err : goal.returns-in_err-add_counts-clause-err
returns-in_err-add_counts-clause-err c =
    let d = c.args.c.now in
    let old = c.args.out.now in
    at_err c.from_residual-in_err-add_counts.result
    (part_first old c.add_counts.new.out (period_line c.args.version d ++ counts_line d) (stable_lines d)
    (part_second old c.write_period.new.out c.add_counts.new.out (period_line c.args.version d) (counts_line d) c.in_ok-write_period.ensures.ok c.in_err-add_counts.ensures.err))

pub returns-clause-err : goal.returns-clause-err
returns-clause-err c =
    let d = c.args.c.now in
    let old = c.args.out.now in
    err_second c.add_stables.result old c.add_counts.new.out c.add_stables.new.out (period_line c.args.version d ++ counts_line d) (stable_lines d)
    (both old c.write_period.new.out c.add_counts.new.out (period_line c.args.version d) (counts_line d) c.in_ok-write_period.ensures.ok c.in_ok-add_counts.ensures.ok) c.add_stables.ensures.err
