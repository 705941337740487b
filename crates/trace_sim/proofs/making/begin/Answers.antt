use Rattle.std.proofs.Common.{◌≡◌, ◌∙◌, ◌+◌, ◌++◌, ◌∷◌, [], ℕ, List, Bool, ap, sym, map, arith}
use Rattle.std.specs.List.{range_with_len}
use Rattle.std.proofs.lemmas.List.FromFn.{map-range_with_len_more}
use Rattle.trace_sim.specs.Choice.{Bits}
use Rattle.trace_sim.specs.Making.{begun_row}
use Rattle.trace_sim.proofs.making.begin.Goals as goal

-- one row more
more : (f : ℕ → List Bool) (n : ℕ) (old new : Bits) (row : List Bool) → new ≡ old ++ row ∷ [] → old ≡ map f (range_with_len 0 n) → row ≡ f n →
    new ≡ map f (range_with_len 0 (n + 1))
more f n old new row pushed so_far is =
    pushed ∙ ap (λ (x : Bits). x ++ row ∷ []) so_far ∙ ap (λ (x : List Bool). map f (range_with_len 0 n) ++ x ∷ []) is
    ∙ sym (map-range_with_len_more f 0 n n (omega arith))

pub loop-n-preserved : goal.loop-n-preserved
loop-n-preserved c =
    more (begun_row c.args.c.now c.args.choice.now) c.loop-n.n c.loop-n.bits.items c.push.new.self.items c.in_ok-begin_row.field-0
    c.in_ok-push.ensures.items c.loop-n.invariant c.in_ok-begin_row.ensures
