use Rattle.std.proofs.Common.{[], ◌∷◌, ◌++◌, ap, sym, ◌∙◌, arith}
use Rattle.std.proofs.lemmas.List.FromFn.{map-range_with_len_more}
use Rattle.std.specs.List.{range_with_len}
use Rattle.std.proofs.Common.{map}
use Rattle.drawing_omissions.specs.Same.{first_same}
use Rattle.drawing_omissions.proofs.same.firsts_same.Goals as goal

pub loop-place-preserved : goal.loop-place-preserved
loop-place-preserved c =
    let f = first_same c.args.cases.now in
    c.in_ok-push.ensures.items ∙ ap (λ l. l ++ c.in_ok-first.first ∷ []) c.loop-place.invariant
    ∙ ap (λ o. map f (range_with_len 0 c.loop-place.place) ++ o ∷ []) c.in_ok-first.ensures
    ∙ sym (map-range_with_len_more f 0 c.loop-place.place c.loop-place.place (omega arith))
