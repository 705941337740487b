use Rattle.std.proofs.Common.{refl, ◌<◌, ap, ◌∙◌, get_or, set, false, length, arith}
use Rattle.std.proofs.lemmas.List.{get_or_default}
use Rattle.std.proofs.lemmas.Grind.{common_steps}
use Rattle.std.proofs.lemmas.List.Edits.{map_over_more}
use Rattle.vector_names.specs.declared.bits.BitRef.{BitRef}
use Rattle.vector_names.specs.declared.bits.Target.TheVariants.{Net}
use Rattle.vector_names.specs.Bits.{complemented}
use Rattle.vector_names.proofs.bits.complement.Goals as goal

-- the item at a place of what is complemented so far is the old one
pub loop-i-preserved : goal.loop-i-preserved
loop-i-preserved c =
    let none : BitRef = record { target = Net 0; inverted = false } in
    let old = c.args.a.now in
    let n : c.loop-i.i < length c.loop-i.a = grind (arith, common_steps) in
    let x = get_or c.loop-i.a c.loop-i.i none in
    c.set.ensures ∙ ap (set c.loop-i.a c.loop-i.i) (c.flipped.ensures ∙ rw c.as_slice.ensures refl)
    ∙ map_over_more complemented old c.loop-i.a c.loop-i.i x (omega arith) c.loop-i.invariant (get_or_default c.loop-i.a c.loop-i.i none x n)
