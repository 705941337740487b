-- The steps of a path, one after the other.
use Rattle.std.proofs.Common.{◌≡◌, ℕ, zero, suc, ◌+◌, ◌-◌, ◌^◌, ◌<◌, ◌≤◌, List, [], ◌∷◌, ◌++◌, length, slice_get, drop, refl, sym, ap, ◌∙◌, arith, append-nil, append_assoc, Option, Some, None, ℤ, ◌-ℤ◌}
use Rattle.std.proofs.lemmas.Option.{same_Some}
use Rattle.critical_paths.specs.declared.path.Node.{Node}
use Rattle.critical_paths.specs.declared.path.Step.{Step}
use Rattle.critical_paths.specs.Known.{IsNear, IsShortAt, nodes_on, on_from, step_at, steps_from, ticks_by, way_by, way_of}

pub drop_here : {X : Type 0} (xs : List X) (k : ℕ) (x : X) → slice_get xs k ≡ Some x →
    drop k xs ≡ x ∷ drop (k + 1) xs
drop_here [] k x at = absurd (cc)
drop_here (y ∷ xs) zero x at = ap (λ z. z ∷ xs) (same_Some y x at)
drop_here (y ∷ xs) (suc k) x at =
    let one : suc (k + 1) ≡ suc k + 1 = omega arith in
    drop_here xs k x at ∙ ap (λ (i : ℕ). x ∷ drop i (y ∷ xs)) one

pub drop_end : {X : Type 0} (xs : List X) (k : ℕ) → length xs ≤ k → drop k xs ≡ []
drop_end [] zero past = refl
drop_end [] (suc k) past = refl
drop_end (x ∷ xs) zero past = absurd (omega (arith, past))
drop_end (x ∷ xs) (suc k) past = drop_end xs k (omega (arith, past))

-- ---- a way is no longer than it is said to be

nodes_long : (nodes : List Node) (k i : ℕ) → length (nodes_on nodes k i) ≤ k
nodes_long nodes zero i = omega arith
nodes_long nodes (suc k) i = by (slice_get nodes i) (λ j. nodes_long nodes k j)
  where
    by : (o : Option Node) → ((j : ℕ) → length (nodes_on nodes k j) ≤ k) →
        length (on_from o (nodes_on nodes k)) ≤ suc k
    by None rest = omega arith
    by (Some n) rest = let less = rest n.next in omega (arith, less)

pub way_long : (nodes : List Node) (i : ℕ) (tick : ℤ) → IsShortAt tick (slice_get nodes i) →
    length (way_of nodes i) ≤ 2 ^ 40 + 1
way_long nodes i tick short = by (slice_get nodes i) short
  where
    by : (o : Option Node) → IsShortAt tick o → length (way_by nodes o) ≤ 2 ^ 40 + 1
    by None short = omega arith
    by (Some n) short = let less = nodes_long nodes (n.count - 1) n.next in let few = short.1 in
        omega (arith, less, few)

pub short_near : (nodes : List Node) (i : ℕ) (tick : ℤ) → i < length nodes →
    IsShortAt tick (slice_get nodes i) → IsNear (2 ^ 60) tick
short_near [] i tick inside short = absurd (omega (arith, inside))
short_near (n ∷ nodes) zero tick inside short = short.0
short_near (n ∷ nodes) (suc i) tick inside short =
    short_near nodes i tick (omega (arith, inside)) short

-- ---- one step more

pub steps_more : (way : List Node) (place : ℕ) (tick taken : ℤ) (steps all : List Step) (n : Node) →
    slice_get way place ≡ Some n →
    taken ≡ ticks_by n.passage → steps ++ steps_from tick (drop place way) ≡ all →
    (steps ++ step_at tick n ∷ []) ++ steps_from (tick -ℤ taken) (drop (place + 1) way) ≡ all
steps_more way place tick taken steps all n at taken_is so_far =
    append_assoc steps (step_at tick n ∷ []) (steps_from (tick -ℤ taken) (drop (place + 1) way))
    ∙ ap (λ (z : ℤ). steps ++ (step_at tick n ∷ steps_from (tick -ℤ z) (drop (place + 1) way)))
    taken_is
    ∙ sym (ap (λ (l : List Node). steps ++ steps_from tick l) (drop_here way place n at))
    ∙ so_far

pub steps_done : (way : List Node) (place : ℕ) (tick : ℤ) (steps all : List Step) →
    length way ≤ place →
    steps ++ steps_from tick (drop place way) ≡ all → steps ≡ all
steps_done way place tick steps all past so_far =
    sym (append-nil steps)
    ∙ sym (ap (λ (l : List Node). steps ++ steps_from tick l) (drop_end way place past))
    ∙ so_far
