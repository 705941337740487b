use Rattle.std.proofs.Common.{◌∙◌, ◌++◌, ◌∷◌, [], ap, sym, ℕ, List, arith}
use Rattle.std.proofs.lemmas.List.FromFn.{map-range_with_len_more}
use Rattle.fixpoint_engine.proofs.hearers.empty_rows.Goals as goal

pub loop-k-preserved : goal.loop-k-preserved
loop-k-preserved c = c.in_ok-push.ensures.items
    ∙ rw c.new.ensures (ap (λ (x : List (List ℕ)). x ++ [] ∷ []) c.loop-k.invariant)
    ∙ sym (map-range_with_len_more (λ _. []) 0 c.loop-k._k c.loop-k._k (omega arith))
