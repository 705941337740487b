-- Rises and falls that are small: each step adds a delay and a wire at most.
use Rattle.std.proofs.Common.{◌≡◌, ℕ, ◌+◌, ◌*◌, ◌<◌, ◌≤◌, inl, inr, Bool, true, false, cond, List, length, sym, ap, subst, refl, ◌∙◌, arith, Option, Some, None}
use Rattle.std.proofs.Math.ListN.{set}
use Rattle.std.proofs.lemmas.Bool.{cases_eq}
use Rattle.std.proofs.lemmas.List.{get_or-set_same, get_or-set_other}
use Rattle.drawing_notes.specs.declared.launched.Arrival.{Arrival}
use Rattle.drawing_notes.specs.declared.launched.Edges.{Edges}
use Rattle.drawing_notes.specs.Arrivals.{AreSmall, AreUpTo, EdgesUpTo, IsUpTo, arrival_at, edges_at, is_later, later, no_edges}

pub weaker : (most more : ℕ) → most ≤ more → (o : Option Arrival) → IsUpTo most o → IsUpTo more o
weaker most more le None small = small
weaker most more le (Some a) small = omega (arith, small, le)

pub both_weaker : (most more : ℕ) → most ≤ more → (e : Edges) → EdgesUpTo most e → EdgesUpTo more e
both_weaker most more le e small = (weaker most more le e.rise small.0, weaker most more le e.fall small.1)

pub small_weaker : (steps more : ℕ) (edges : List Edges) → steps ≤ more → AreSmall steps edges → AreSmall more edges
small_weaker steps more edges le small net =
    both_weaker (131070 * steps) (131070 * more) (omega (arith, le)) (edges_at edges net) (small net)

pub small_none : (steps : ℕ) (edges : List Edges) → ((i : ℕ) → edges_at edges i ≡ no_edges) → AreSmall steps edges
small_none steps edges none net = subst (EdgesUpTo (131070 * steps)) (sym (none net)) (tt, tt)

pub small_more : (steps net : ℕ) (edges new : List Edges) (made : Edges) → net < length edges → new ≡ set edges net made →
    EdgesUpTo (131070 * (steps + 1)) made → AreSmall steps edges → AreSmall (steps + 1) new
small_more steps net edges new made inside put made_small before i = elim (cases_eq i net) [
  | inl same ↦
      let here : edges_at new i ≡ made =
      ap (edges_at new) same ∙ ap (λ (xs : List Edges). edges_at xs net) put ∙ get_or-set_same edges net made no_edges inside in
      subst (EdgesUpTo (131070 * (steps + 1))) (sym here) made_small
  | inr other ↦
      let there : edges_at new i ≡ edges_at edges i =
      ap (λ (xs : List Edges). edges_at xs i) put ∙ get_or-set_other edges net i made no_edges other in
      subst (EdgesUpTo (131070 * (steps + 1))) (sym there) (both_weaker (131070 * steps) (131070 * (steps + 1)) (omega arith) (edges_at edges i) (before i))
]

-- the later of two is no greater than either may be
pub later_small : (most : ℕ) (a b : Option Arrival) → IsUpTo most a → IsUpTo most b → IsUpTo most (later a b)
later_small most None b first second = second
later_small most (Some a) None first second = first
later_small most (Some a) (Some b) first second = by (is_later a b)
  where
    by : (t : Bool) → IsUpTo most (cond t (Some b) (Some a))
    by true = second
    by false = first

pub up_to_weaker : (most more : ℕ) (arrivals : List (Option Arrival)) → most ≤ more → AreUpTo most arrivals → AreUpTo more arrivals
up_to_weaker most more arrivals le small net = weaker most more le (arrival_at arrivals net) (small net)
