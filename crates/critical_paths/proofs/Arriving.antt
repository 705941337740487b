-- What arrivals leave as it was.
use Rattle.std.proofs.Common.{◌≡◌, ℕ, zero, suc, ◌+◌, ◌-◌, ◌<◌, ◌≤◌, List, [], ◌∷◌, ◌++◌, length, slice_get, take, drop, get_or, fold, refl, sym, ap, ◌∙◌, subst, arith, append-nil, Option, Some, None, ℤ, pos, negsuc}
use Rattle.std.proofs.lemmas.List.{get_or-drop, length-drop, take_more}
use Rattle.std.proofs.lemmas.List.Sums.{fold_push}
use Rattle.std.specs.Prelude.{unsigned_abs}
use Rattle.std.proofs.lemmas.Int.{ints}
use Rattle.std.proofs.lemmas.Option.{get_or_from_slice_get, slice_get_within}
use Rattle.flat_circuit.specs.declared.net.Net.{Net}
use Rattle.flat_circuit.specs.Circuit.{Circuit, driver_at, driver_in}
use Rattle.fixpoint_engine.specs.Waves.{Waves}
use Rattle.critical_paths.specs.declared.event.Stop.{Stop}
use Rattle.critical_paths.specs.declared.path.Node.{Node}
use Rattle.critical_paths.specs.Known.{Grows, IsNear, Knows}
use Rattle.critical_paths.proofs.Memo.{knows_more}

-- no node more, and one
pub grows_none : (nodes : List Node) → Grows nodes nodes
grows_none nodes = record { more = []; is = sym (append-nil nodes) }

pub grows_one : (old new : List Node) (n : Node) → new ≡ old ++ n ∷ [] → Grows old new
grows_one old new n is = record { more = n ∷ []; is = is }

-- what was known stays so
pub knows_grown : (c : Circuit) (ws : Waves) (old new : List Node) (met after : List (Stop × ℕ)) →
    Grows old new → after ≡ met →
    Knows c ws old met → Knows c ws new after
knows_grown c ws old new met after grows same knows =
    subst (λ (es : List (Stop × ℕ)). Knows c ws new es) (sym same)
    (subst (λ (nodes : List Node). Knows c ws nodes met) (sym grows.is)
    (knows_more c ws old grows.more met knows))

pub near_by : (most : ℕ) (z : ℤ) → unsigned_abs z ≤ most → IsNear most z
near_by most (pos n) less = record {
  low = omega (arith, ints, less);
  high = omega (arith, ints, less);
}
near_by most (negsuc n) less = record {
  low = omega (arith, ints, less);
  high = omega (arith, ints, less);
}

-- what is driven is a net
pub driven_within : (nets : List Net) (i k : ℕ) → driver_at nets i ≡ Some k → i < length nets
driven_within nets i k driven = by (slice_get nets i) refl driven
  where
    by : (o : Option Net) → slice_get nets i ≡ o → driver_in o ≡ Some k → i < length nets
    by None at driven = absurd (cc)
    by (Some n) at driven = slice_get_within nets i n at

-- what stands in a list is not past its end
pub not_past : {A : Type 0} (xs : List A) (k : ℕ) → k < length xs → slice_get xs k ≡ None → ⊥
not_past [] k below none = absurd (omega (arith, below))
not_past (x ∷ xs) zero below none = absurd (cc)
not_past (x ∷ xs) (suc k) below none = not_past xs k (omega (arith, below)) none

-- ---- those from one number up to another

pub taken_none : {A : Type 0} (xs : List A) (from : ℕ) → take (from - from) (drop from xs) ≡ []
taken_none xs from = let none : from - from ≡ 0 = omega arith in ap (λ (n : ℕ). take n (drop from xs)) none

-- with the next one
pub taken_one : {A : Type 0} (xs : List A) (from at : ℕ) (x : A) → from ≤ at → slice_get xs at ≡ Some x →
    take (at + 1 - from) (drop from xs) ≡ take (at - from) (drop from xs) ++ x ∷ []
taken_one xs from at x less is =
    let within = slice_get_within xs at x is in
    let step : at + 1 - from ≡ (at - from) + 1 = omega (arith, less) in
    let place : from + (at - from) ≡ at = omega (arith, less) in
    let long = length-drop from xs in
    ap (λ (n : ℕ). take n (drop from xs)) step
    ∙ take_more (drop from xs) (at - from) x (omega (arith, long, within, less))
    ∙ ap (λ y. take (at - from) (drop from xs) ++ y ∷ [])
    (get_or-drop from xs (at - from) x ∙ ap (λ (n : ℕ). get_or xs n x) place
    ∙ get_or_from_slice_get xs at x x is)

-- a fold over them
pub taken_more : {A B : Type 0} (f : B → A → B) (b : B) (xs : List A) (from at : ℕ) (x : A) →
    from ≤ at → slice_get xs at ≡ Some x →
    fold f b (take (at + 1 - from) (drop from xs))
    ≡ f (fold f b (take (at - from) (drop from xs))) x
taken_more f b xs from at x less is =
    ap (fold f b) (taken_one xs from at x less is) ∙ fold_push f b (take (at - from) (drop from xs)) x

-- what stands there
pub some_at : {A : Type 0} (xs : List A) (k : ℕ) → k < length xs → (x : A) × (slice_get xs k ≡ Some x)
some_at [] k less = absurd (omega (arith, less))
some_at (x ∷ xs) zero less = (x, refl)
some_at (x ∷ xs) (suc k) less = some_at xs k (omega (arith, less))
