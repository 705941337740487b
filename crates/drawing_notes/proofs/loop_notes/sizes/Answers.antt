use Rattle.std.proofs.Common.{◌<◌, ◌+◌, ℕ, length, sym, ap, subst, ◌∙◌, arith}
use Rattle.std.specs.Global.{Vec}
use Rattle.std.proofs.lemmas.List.{get_or_read, length-set}
use Rattle.drawing_notes.specs.Parts.{AreSizes}
use Rattle.drawing_notes.proofs.Sizes.{is_none_by, on_few, sizes_more, sizes_none}
use Rattle.drawing_notes.proofs.loop_notes.sizes.Goals as goal
use Rattle.drawing_notes.proofs.loop_notes.sizes.Goals.{in-Some, in_default}

pub overflow_add-index_mut : goal.overflow_add-index_mut
overflow_add-index_mut c =
    let inside = c.requires.inside c.loop-net.net c.in-Some.root c.in-Some.is in
    let below : c.in-Some.root < length c.loop-net.sizes.items = omega (arith, inside, c.loop-net.invariant.long) in
    let size = get_or_read c.loop-net.sizes.items c.in-Some.root c.index_mut.result.now below c.index_mut.ensures.value 0 in
    let are = c.loop-net.invariant.are c.in-Some.root below in
    let few = on_few c.args.parts.now c.loop-net.net c.in-Some.root in
    omega (arith, size, are, few, c.loop-net-test.true, c.requires.few)

pub loop-net-preserved : goal.loop-net-preserved
loop-net-preserved c = elim c.match-parts-net.branch [
  | in-Some w ↦
      let inside = c.requires.inside c.loop-net.net w.in-Some.root w.in-Some.is in
      let below : w.in-Some.root < length c.loop-net.sizes.items = omega (arith, inside, c.loop-net.invariant.long) in
      let size = get_or_read c.loop-net.sizes.items w.in-Some.root w.index_mut.result.now below w.index_mut.ensures.value 0 in
      record {
        long = ap (λ (v : Vec ℕ). length v.items) w.sizes-is ∙ length-set c.loop-net.sizes.items w.in-Some.root (w.index_mut.result.now + 1) ∙ c.loop-net.invariant.long;
        are = sizes_more c.args.parts.now c.loop-net.net c.loop-net.sizes.items c.match-parts-net.sizes.items w.in-Some.root (w.index_mut.result.now + 1)
            w.in-Some.is below (ap (λ m. m + 1) size) (ap (λ (v : Vec ℕ). v.items) w.sizes-is) c.loop-net.invariant.are;
      }
  | in_default w ↦ record {
    long = ap (λ (v : Vec ℕ). length v.items) w.sizes-is ∙ c.loop-net.invariant.long;
    are = subst (λ (v : Vec ℕ). AreSizes (c.loop-net.net + 1) c.args.parts.now v.items) (sym w.sizes-is)
        (sizes_none c.args.parts.now c.loop-net.net c.loop-net.sizes.items (is_none_by _ w.in_default.not-Some) c.loop-net.invariant.are);
  }
]
