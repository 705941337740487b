-- Joining the texts of items through a view of them.
use Rattle.std.proofs.Common.{◌≡◌, ℕ, List, [], ◌∷◌, ◌++◌, map, refl, ap}
use Rattle.std.specs.Prelude.{codes}
use Rattle.std.specs.List.{join_by, flat_map}
use Rattle.std.proofs.lemmas.List.Folds.{flat_map-map}
use Rattle.drawing_tree.specs.Canonical.{bracketed, bracketed_if_some}

pub join_by_map : {A B C : Type 0} (f : B → List C) (v : A → B) (sep : List C) (xs : List A) → join_by f sep (map v xs) ≡ join_by (λ x. f (v x)) sep xs
join_by_map f v sep [] = refl
join_by_map f v sep (x ∷ xs) = ap (λ t. f (v x) ++ t) (flat_map-map (λ y. sep ++ f y) v xs)

pub bracketed_map : {A B : Type 0} (before behind : List ℕ) (f : B → List ℕ) (v : A → B) (xs : List A) → bracketed before behind f (map v xs) ≡ bracketed before behind (λ x. f (v x)) xs
unfolding bracketed
bracketed_map before behind f v xs = ap (λ t. before ++ t ++ behind) (join_by_map f v (codes ", ") xs)

pub bracketed_if_some_map : {A B : Type 0} (before behind : List ℕ) (f : B → List ℕ) (v : A → B) (xs : List A) →
    bracketed_if_some before behind f (map v xs) ≡ bracketed_if_some before behind (λ x. f (v x)) xs
unfolding bracketed_if_some
bracketed_if_some_map before behind f v [] = refl
bracketed_if_some_map before behind f v (x ∷ xs) = bracketed_map before behind f v (x ∷ xs)

pub each_map : {A B : Type 0} (f : B → List ℕ) (v : A → B) (xs : List A) → flat_map f (map v xs) ≡ flat_map (λ x. f (v x)) xs
each_map f v xs = flat_map-map f v xs
