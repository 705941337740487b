use Rattle.std.proofs.Common.{◌≡◌, ◌+◌, ◌-◌, ◌∷◌, ◌++◌, [], ℕ, List, ap, ◌∙◌, sym, reverse, arith}
use Rattle.std.specs.List.{range_with_len}
use Rattle.vector_names.proofs.Ranges.{down_more}
use Rattle.vector_names.proofs.range.downwards.Goals as goal

pub loop-further-preserved : goal.loop-further-preserved
loop-further-preserved c =
    c.in_ok-push.ensures.ok ∙ ap (λ (xs : List ℕ). xs ++ (c.args.first - c.loop-further.further) ∷ []) c.loop-further.invariant
    ∙ sym (down_more c.args.first c.loop-further.further (c.args.first - c.loop-further.further) (omega arith))

pub returns : goal.returns
returns c =
    let e : c.loop-further.further ≡ c.args.first - c.args.last = omega arith in
    let f : c.args.first + 1 - (c.args.first - c.args.last + 1) ≡ c.args.last = omega arith in
    c.in_ok-push-2.ensures.ok ∙ ap (λ (xs : List ℕ). xs ++ c.args.last ∷ []) (rw e at c.loop-further.invariant)
    ∙ sym (down_more c.args.first (c.args.first - c.args.last) c.args.last (omega arith))
    ∙ ap (λ a. reverse (range_with_len a (c.args.first - c.args.last + 1))) f
