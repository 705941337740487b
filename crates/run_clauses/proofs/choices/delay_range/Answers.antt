use Rattle.std.proofs.Common.{sym}
use Rattle.std.proofs.lemmas.Option.{IfSome_then}
use Rattle.run_clauses.proofs.Choosing.{of_delay}
use Rattle.run_clauses.proofs.choices.delay_range.Goals as goal

pub returns : goal.returns
returns c =
    IfSome_then c.delay_of.result c.delay_of.ensures
    (of_delay c.args.c.now c.args.k c.in_ok-instance.field-0.now (sym c.in_ok-instance.ensures))
