use Rattle.std.proofs.Common.{◌≡◌, ◌+◌, ◌-◌, ◌∷◌, ◌++◌, [], ℕ, List, ap, ◌∙◌, sym, arith}
use Rattle.vector_names.proofs.Ranges.{range_more}
use Rattle.vector_names.proofs.range.upwards.Goals as goal

pub loop-further-preserved : goal.loop-further-preserved
loop-further-preserved c =
    c.in_ok-push.ensures.ok ∙ ap (λ (xs : List ℕ). xs ++ (c.args.first + c.loop-further.further) ∷ []) c.loop-further.invariant
    ∙ sym (range_more c.args.first c.loop-further.further (c.args.first + c.loop-further.further) (omega arith))

pub returns : goal.returns
returns c =
    let e : c.loop-further.further ≡ c.args.last - c.args.first = omega arith in
    c.in_ok-push-2.ensures.ok ∙ ap (λ (xs : List ℕ). xs ++ c.args.last ∷ []) (rw e at c.loop-further.invariant) ∙ sym (range_more c.args.first (c.args.last - c.args.first) c.args.last (omega arith))
