use Rattle.std.proofs.Common.{◌≡◌, All, arith, false, subst, sym, take}
use Rattle.std.proofs.lemmas.List.{take_all}
use Rattle.std.proofs.lemmas.List.Elements.{All-more}
use Rattle.narrowing.specs.Part.{same_thing}
use Rattle.narrowing.proofs.splits.is_unset.Goals as goal

pub loop-other-preserved : goal.loop-other-preserved
loop-other-preserved c =
    All-more (λ q. same_thing c.args.part q ≡ false) c.args.parts.now c.loop-other.other-index _ (omega arith)
    c.loop-other.invariant (sym c.if-same_thing.ensures)

pub returns : goal.returns
returns c unset =
    let all : take c.loop-other.other-index c.args.parts.now ≡ c.args.parts.now =
    take_all c.loop-other.other-index c.args.parts.now (omega arith) in
    subst (All (λ q. same_thing c.args.part q ≡ false)) all c.loop-other.invariant
