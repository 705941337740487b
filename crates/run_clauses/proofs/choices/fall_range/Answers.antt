use Rattle.std.proofs.Common.{sym}
use Rattle.run_clauses.proofs.Choosing.{of_fall}
use Rattle.run_clauses.proofs.choices.fall_range.Goals as goal

pub returns : goal.returns
returns c =
    rw c.of.ensures
    (of_fall c.args.c.now c.args.k c.in_ok-instance.field-0.now (sym c.in_ok-instance.ensures)
    c.in_ok-split.split (sym c.in_ok-split.ensures))
