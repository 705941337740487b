use Rattle.std.proofs.Common.{arith, ap, sym, ◌∙◌}
use Rattle.std.proofs.lemmas.List.{take_all}
use Rattle.case_analysis.specs.Reached.{nets_set}
use Rattle.case_analysis.proofs.SameNets.{both_more}
use Rattle.case_analysis.proofs.reached.sets_the_same.Goals as goal

pub loop-place-preserved : goal.loop-place-preserved
loop-place-preserved c =
    both_more c.args.one.now c.args.other.now c.loop-place.place _ _ (omega arith) (omega arith)
    c.if-one-place.false c.loop-place.invariant

pub returns : goal.returns
returns c = λ _.
    ap nets_set (sym (take_all c.loop-place.place c.args.one.now (omega arith)))
    ∙ c.loop-place.invariant
    ∙ ap nets_set (take_all c.loop-place.place c.args.other.now (omega arith))
