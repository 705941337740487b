-- Counts and places go by the marks alone.
use Rattle.std.proofs.Common.{◌≡◌, ℕ, ◌+◌, Bool, not, cond, List, [], ◌∷◌, length, map, fold, refl, sym, ap, ◌∙◌, count_by}
use Rattle.std.specs.List.{position, position_or_len}
use Rattle.std.proofs.lemmas.List.{length-map}

counts_from : {A : Type 0} (mark : A → Bool) (xs : List A) (n : ℕ) → fold (λ a x. a + cond (mark x) 1 0) n xs ≡ fold (λ a b. a + cond b 1 0) n (map mark xs)
counts_from mark [] n = refl
counts_from mark (x ∷ xs) n = counts_from mark xs (n + cond (mark x) 1 0)

pub count_marks : {A B : Type 0} (mark : A → Bool) (other : B → Bool) (xs : List A) (ys : List B) → map mark xs ≡ map other ys → count_by mark xs ≡ count_by other ys
count_marks mark other xs ys same =
    counts_from mark xs 0 ∙ ap (λ bs. fold (λ a b. a + cond b 1 0) 0 bs) same ∙ sym (counts_from other ys 0)

places_from : {A : Type 0} (mark : A → Bool) (xs : List A) → position_or_len mark xs ≡ position_or_len (λ b. b) (map mark xs)
places_from mark [] = refl
places_from mark (x ∷ xs) = ap (λ n. cond (not (mark x)) (1 + n) 0) (places_from mark xs)

place_marks : {A : Type 0} (mark : A → Bool) (xs : List A) → position mark xs ≡ position (λ b. b) (map mark xs)
place_marks mark xs = rw (places_from mark xs, length-map xs mark) refl

pub position_marks : {A B : Type 0} (mark : A → Bool) (other : B → Bool) (xs : List A) (ys : List B) → map mark xs ≡ map other ys → position mark xs ≡ position other ys
position_marks mark other xs ys same = place_marks mark xs ∙ ap (position (λ b. b)) same ∙ sym (place_marks other ys)

pub length_marks : {A B C : Type 0} (mark : A → C) (other : B → C) (xs : List A) (ys : List B) → map mark xs ≡ map other ys → length xs ≡ length ys
length_marks mark other xs ys same = sym (length-map xs mark) ∙ ap length same ∙ length-map ys other
