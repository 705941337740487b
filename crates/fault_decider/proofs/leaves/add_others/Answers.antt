use Rattle.std.specs.Prelude.{codes}
use Rattle.std.proofs.Common.{◌∙◌, ◌++◌, List, ap, arith, flat_map}
use Rattle.std.proofs.lemmas.List.{take_all}
use Rattle.listing.proofs.Parts.{item_added}
use Rattle.narrowing.specs.declared.part.Part.{Part}
use Rattle.fault_decider.specs.Lines.{leaf_text}
use Rattle.fault_decider.proofs.leaves.add_others.Goals as goal

pub loop-parts-preserved : goal.loop-parts-preserved
loop-parts-preserved c =
    item_added (λ (ps : List Part). codes ", " ++ leaf_text c.args.c.now ps) c.args.leaves.now c.loop-parts.parts-index c.parts-item.result
    c.args.out.now c.loop-parts.out c.add_other.new.out
    (let inside = c.loop-parts-test.true in omega (arith, inside)) c.loop-parts.invariant
    (c.in_ok-add_other.ensures
    ∙ ap (λ (ps : List Part). c.loop-parts.out ++ (codes ", " ++ leaf_text c.args.c.now ps)) (c.as_slice.ensures ∙ c.parts-item.is))

pub returns : goal.returns
returns c =
    c.loop-parts.invariant
    ∙ ap (λ xs. c.args.out.now ++ flat_map (λ (ps : List Part). codes ", " ++ leaf_text c.args.c.now ps) xs)
    (take_all c.loop-parts.parts-index c.args.leaves.now (let past = c.loop-parts-test.false in omega (arith, past)))
