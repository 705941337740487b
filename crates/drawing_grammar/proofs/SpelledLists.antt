-- The tokens of lists are those of their items and of what stands between them.
use Rattle.std.proofs.Common.{◌≡◌, ℕ, true, List, [], ◌∷◌, ◌++◌, refl, sym, subst, append_assoc}
use Rattle.std.specs.Prelude.{codes}
use Rattle.std.specs.List.{join_by, flat_map, AllByRecursion}
use Rattle.drawing_tree.specs.Canonical.{listed_text, bracketed, bracketed_if_some}
use Rattle.drawing_grammar.proofs.Cutting.{Bare, breaks, breaks_on, stops, Spells, Closes, closed, nothing_closes, before, before_closed, then_, then_closed}
use Rattle.drawing_grammar.proofs.Literals.{comma_closes}
use Rattle.drawing_grammar.proofs.CanonicalTokens.{comma, listed_tokens, bracketed_tokens, bracketed_tokens_if_some}

pub all_map : {A : Type 0} (P Q : A → Type 0) → ((x : A) → P x → Q x) → (xs : List A) → AllByRecursion P xs → AllByRecursion Q xs
all_map P Q h [] is = tt
all_map P Q h (x ∷ xs) is = (h x is.0, all_map P Q h xs is.1)

-- the text of each item is its tokens
abbrev pub Each : {A : Type 0} → (A → List ℕ) → (A → List Bare) → List A → Type 0
Each text tokens xs = AllByRecursion (λ x. Spells (text x) (tokens x)) xs

more_stop : {A : Type 0} (sep : List ℕ) (text : A → List ℕ) → breaks sep ≡ true → (xs : List A) → stops (flat_map (λ x. sep ++ text x) xs) ≡ true
more_stop sep text h [] = refl
more_stop sep text h (x ∷ xs) =
    subst (λ (s : List ℕ). stops s ≡ true) (sym (append_assoc sep (text x) (flat_map (λ y. sep ++ text y) xs)))
    (breaks_on sep (text x ++ flat_map (λ y. sep ++ text y) xs) h)

more_spell : {A : Type 0} (sep : List ℕ) (mark : List Bare) (text : A → List ℕ) (tokens : A → List Bare) → Closes sep mark →
    breaks sep ≡ true → (xs : List A) → Each text tokens xs → Spells (flat_map (λ x. sep ++ text x) xs) (flat_map (λ x. mark ++ tokens x) xs)
more_spell sep mark text tokens c h [] is = closed [] [] nothing_closes
more_spell sep mark text tokens c h (x ∷ xs) is =
    then_ (sep ++ text x) (flat_map (λ y. sep ++ text y) xs) (mark ++ tokens x) (flat_map (λ y. mark ++ tokens y) xs)
    (before sep (text x) mark (tokens x) c is.0) (more_spell sep mark text tokens c h xs is.1) (more_stop sep text h xs)

pub joined_spells : {A : Type 0} (sep : List ℕ) (mark : List Bare) (text : A → List ℕ) (tokens : A → List Bare) →
    Closes sep mark → breaks sep ≡ true → (xs : List A) → Each text tokens xs → Spells (join_by text sep xs) (join_by tokens mark xs)
joined_spells sep mark text tokens c h [] is = closed [] [] nothing_closes
joined_spells sep mark text tokens c h (x ∷ xs) is =
    then_ (text x) (flat_map (λ y. sep ++ text y) xs) (tokens x) (flat_map (λ y. mark ++ tokens y) xs)
    is.0 (more_spell sep mark text tokens c h xs is.1) (more_stop sep text h xs)

pub listed_spells : {A : Type 0} (text : A → List ℕ) (tokens : A → List Bare) (xs : List A) → Each text tokens xs → Spells (listed_text text xs) (listed_tokens tokens xs)
listed_spells text tokens xs is = joined_spells (codes ", ") comma text tokens comma_closes refl xs is

pub bracketed_closes : {A : Type 0} (front back : List ℕ) (first last : List Bare) (text : A → List ℕ) (tokens : A → List Bare) → Closes front first →
    Closes back last → breaks back ≡ true → (xs : List A) → Each text tokens xs →
    Closes (bracketed front back text xs) (bracketed_tokens first last tokens xs)
unfolding bracketed
bracketed_closes front back first last text tokens f b h xs is =
    then_closed (front ++ listed_text text xs) back (first ++ listed_tokens tokens xs) last
    (before front (listed_text text xs) first (listed_tokens tokens xs) f (listed_spells text tokens xs is)) b h

pub bracketed_if_some_closes : {A : Type 0} (front back : List ℕ) (first last : List Bare) (text : A → List ℕ) (tokens : A → List Bare) →
    Closes front first → Closes back last → breaks back ≡ true → (xs : List A) → Each text tokens xs →
    Closes (bracketed_if_some front back text xs) (bracketed_tokens_if_some first last tokens xs)
unfolding bracketed_if_some
bracketed_if_some_closes front back first last text tokens f b h [] is = nothing_closes
bracketed_if_some_closes front back first last text tokens f b h (x ∷ xs) is = bracketed_closes front back first last text tokens f b h (x ∷ xs) is

-- texts that are closed, one after another
pub each_closes : {A : Type 0} (text : A → List ℕ) (tokens : A → List Bare) (xs : List A) → AllByRecursion (λ x. Closes (text x) (tokens x)) xs → Closes (flat_map text xs) (flat_map tokens xs)
each_closes text tokens [] is = nothing_closes
each_closes text tokens (x ∷ xs) is = before_closed (text x) (flat_map text xs) (tokens x) (flat_map tokens xs) is.0 (each_closes text tokens xs is.1)
