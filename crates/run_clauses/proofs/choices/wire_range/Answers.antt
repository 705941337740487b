use Rattle.std.proofs.Common.{sym}
use Rattle.std.proofs.lemmas.Option.{IfSome_then}
use Rattle.run_clauses.proofs.Choosing.{of_wire}
use Rattle.run_clauses.proofs.choices.wire_range.Goals as goal

pub returns : goal.returns
returns c =
    IfSome_then c.wire_of.result c.wire_of.ensures
    (of_wire c.args.c.now c.args.k c.in_ok-instance.field-0.now (sym c.in_ok-instance.ensures)
    c.args.pin)
