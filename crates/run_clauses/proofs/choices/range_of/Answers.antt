use Rattle.std.proofs.Common.{subst, sym}
use Rattle.std.proofs.lemmas.Option.{IfSome_then}
use Rattle.run_clauses.specs.declared.fact.Fact.{Fact}
use Rattle.run_clauses.specs.Choices.{AreBounds}
use Rattle.run_clauses.proofs.choices.range_of.Goals as goal

pub returns-in-Delay : goal.returns-in-Delay
returns-in-Delay c =
    IfSome_then c.delay_range.result c.delay_range.ensures
    (λ range are. subst (λ (fact : Fact). AreBounds c.args.c.now fact range) (sym c.in-Delay.is)
    (are _))

pub returns-in-Rise : goal.returns-in-Rise
returns-in-Rise c =
    IfSome_then c.rise_range.result c.rise_range.ensures
    (λ range are. subst (λ (fact : Fact). AreBounds c.args.c.now fact range) (sym c.in-Rise.is)
    (are _))

pub returns-in-Fall : goal.returns-in-Fall
returns-in-Fall c =
    IfSome_then c.fall_range.result c.fall_range.ensures
    (λ range are. subst (λ (fact : Fact). AreBounds c.args.c.now fact range) (sym c.in-Fall.is)
    (are _))

pub returns-in-Wire : goal.returns-in-Wire
returns-in-Wire c =
    IfSome_then c.wire_range.result c.wire_range.ensures
    (λ range are. subst (λ (fact : Fact). AreBounds c.args.c.now fact range) (sym c.in-Wire.is)
    (are _))

pub returns-in-Offset : goal.returns-in-Offset
returns-in-Offset c =
    IfSome_then c.offset_range.result c.offset_range.ensures
    (λ range are. subst (λ (fact : Fact). AreBounds c.args.c.now fact range) (sym c.in-Offset.is)
    (are _))
