use Rattle.std.proofs.Common.{subst, sym}
use Rattle.std.proofs.lemmas.Option.{IfSome_then}
use Rattle.scald_base.specs.Time.{Header}
use Rattle.run_clauses.specs.Choices.{IsOfClock}
use Rattle.run_clauses.proofs.Choosing.{of_offset}
use Rattle.run_clauses.proofs.choices.offset_range.Goals as goal

pub returns : goal.returns
returns c =
    let net = c.in_ok-net.field-0.now in
    IfSome_then c.offset_of.result c.offset_of.ensures
    (λ range of.
    of_offset c.args.c.now c.args.net net (sym c.in_ok-net.ensures) range
    (subst (λ (h : Header). IsOfClock h net range) c.header.ensures of))
