use Rattle.std.specs.Prelude.{codes}
use Rattle.std.proofs.Common.{◌∙◌, ◌++◌, List, ap, arith, flat_map}
use Rattle.std.proofs.lemmas.List.{take_all}
use Rattle.listing.proofs.Parts.{item_added}
use Rattle.narrowing.specs.declared.part.Part.{Part}
use Rattle.fault_decider.specs.Lines.{part_text}
use Rattle.fault_decider.proofs.leaves.add_other_parts.Goals as goal

pub loop-part-preserved : goal.loop-part-preserved
loop-part-preserved c =
    item_added (λ (p : Part). codes " & " ++ part_text c.args.c.now p) c.args.parts.now c.loop-part.part-index _
    c.args.out.now c.loop-part.out c.add_other_part.new.out
    (let inside = c.loop-part-test.true in omega (arith, inside)) c.loop-part.invariant
    c.in_ok-add_other_part.ensures

pub returns : goal.returns
returns c =
    c.loop-part.invariant
    ∙ ap (λ xs. c.args.out.now ++ flat_map (λ (p : Part). codes " & " ++ part_text c.args.c.now p) xs)
    (take_all c.loop-part.part-index c.args.parts.now (let past = c.loop-part-test.false in omega (arith, past)))
