use Rattle.std.proofs.Common.{◌++◌, ℕ, List, get_or, take, sym, ap, ◌∙◌, append_assoc}
use Rattle.std.proofs.lemmas.List.{take_all}
use Rattle.listing.specs.Output.{part_of, text_of}
use Rattle.listing.specs.declared.output.Part.{Part}
use Rattle.listing.proofs.Pieces.{text_more}
use Rattle.listing.proofs.output.add_parts.Goals as goal

pub loop-part-preserved : goal.loop-part-preserved
loop-part-preserved c =
    let kept = c.args.kept.now in let ps = c.args.parts.now in let i = c.loop-part.part-index in
    let d : Part = record { from = 0; to = 0 } in
    c.in_ok-extend.ensures.ok
    ∙ (ap (λ (b : List ℕ). b ++ c.part_of.result.now) c.loop-part.invariant
    ∙ (ap (λ (b : List ℕ). (c.args.out.now ++ text_of kept (take i ps)) ++ b) c.part_of.ensures
    ∙ (append_assoc c.args.out.now (text_of kept (take i ps)) (part_of kept (get_or ps i d))
    ∙ ap (λ (b : List ℕ). c.args.out.now ++ b)
    (sym (text_more kept ps i d c.loop-part-test.true)))))

pub returns : goal.returns
returns c =
    c.loop-part.invariant ∙ ap (λ (ps : List Part). c.args.out.now ++ text_of c.args.kept.now ps)
    (take_all c.loop-part.part-index c.args.parts.now c.loop-part-test.false)
