use Rattle.std.proofs.Common.{◌≡◌, true, false, sym, ◌∙◌, arith}
use Rattle.drawing_omissions.specs.Open.{is_new}
use Rattle.drawing_omissions.proofs.AddingHeld.{count_more}
use Rattle.drawing_omissions.proofs.parts.count_of.Goals as goal
use Rattle.drawing_omissions.proofs.parts.count_of.Goals.{then-is_new, else-is_new}

pub loop-place-preserved : goal.loop-place-preserved
loop-place-preserved c =
    let more = count_more (is_new c.args.cases.now c.args.entries) c.loop-place.place in
    let before = c.loop-place.invariant.counted in
    elim c.if-is_new.branch [
      | then-is_new w ↦
          let is : is_new c.args.cases.now c.args.entries c.loop-place.place ≡ true = sym c.is_new.ensures ∙ w.if-is_new.true in
          let all = rw is at more in
          record { counted = omega (arith, all, before, w.count-is); few = omega (arith, w.count-is, c.loop-place.invariant.few) }
      | else-is_new w ↦
          let is : is_new c.args.cases.now c.args.entries c.loop-place.place ≡ false = sym c.is_new.ensures ∙ w.if-is_new.false in
          let all = rw is at more in
          record { counted = omega (arith, all, before, w.count-is); few = omega (arith, w.count-is, c.loop-place.invariant.few) }
    ]
