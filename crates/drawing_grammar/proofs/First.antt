-- The first element of a list that breaks what holds of those before it: there is one.
use Rattle.std.proofs.Common.{◌≡◌, ◌+◌, List, [], ◌∷◌, ◌++◌, length, refl, sym, ap, ◌∙◌, subst, arith, length-append}
use Rattle.std.specs.Prelude.{AllPairs, Contains, ◌≢◌}
use Rattle.std.proofs.lemmas.List.{get_or_append_left}
use Rattle.std.proofs.Math.Seq.{get_or-append_seam}

heads : {X : Type 0} (x y : X) (xs ys : List X) → x ∷ xs ≡ y ∷ ys → x ≡ y
heads x y xs ys e = cc

tails : {X : Type 0} (x y : X) (xs ys : List X) → x ∷ xs ≡ y ∷ ys → xs ≡ ys
tails x y xs ys e = cc

-- What holds of some elements holds of those at their front. It holds of the elements before each of these two, and not
-- with them: so they are one.
pub first_one : {X : Type 0} (Good : List X → Type 0) → ((xs ys : List X) → Good (xs ++ ys) → Good xs) →
    (before : List X) (bad : X) (after others : List X) (other : X) (rest : List X) → before ++ bad ∷ after ≡ others ++ other ∷ rest →
    Good before → Good others → (Good (before ++ bad ∷ []) → ⊥) → (Good (others ++ other ∷ []) → ⊥) → (before ≡ others) × (bad ≡ other)
first_one Good front [] bad after [] other rest e g k b c = (refl, heads bad other after rest e)
first_one {X} Good front [] bad after (y ∷ ys) other rest e g k b c =
    let same : bad ≡ y = heads bad y after (ys ++ other ∷ rest) e in
    let F : X → Type 0 = λ z. Good (z ∷ ys) in
    absurd (b (front (bad ∷ []) ys (subst F (sym same) k)))
first_one {X} Good front (x ∷ xs) bad after [] other rest e g k b c =
    let same : x ≡ other = heads x other (xs ++ bad ∷ after) rest e in
    let F : X → Type 0 = λ z. Good (z ∷ xs) in
    absurd (c (front (other ∷ []) xs (subst F same g)))
first_one {X} Good front (x ∷ xs) bad after (y ∷ ys) other rest e g k b c =
    let same : x ≡ y = heads x y (xs ++ bad ∷ after) (ys ++ other ∷ rest) e in
    let F : X → Type 0 = λ z. Good (z ∷ ys) in
    let G : X → Type 0 = λ z. Good (z ∷ (ys ++ other ∷ [])) in
    let more = first_one (λ zs. Good (x ∷ zs)) (λ us vs h. front (x ∷ us) vs h) xs bad after ys other rest (tails x y (xs ++ bad ∷ after) (ys ++ other ∷ rest) e) g
    (subst F (sym same) k) b (λ h. c (subst G same h)) in
    (ap (λ (z : X). z ∷ xs) same ∙ ap (λ (zs : List X). y ∷ zs) more.0, more.1)

-- ---- lists of different elements

pub different_front : {X : Type 0} (xs ys : List X) → AllPairs (λ a b. a ≢ b) (xs ++ ys) → AllPairs (λ a b. a ≢ b) xs
different_front {X} xs ys h i j d before within same =
    h i j d before (let e : length (xs ++ ys) ≡ length xs + length ys = length-append xs ys in omega (arith, e))
    (get_or_append_left xs ys d i (omega arith) ∙ (same ∙ sym (get_or_append_left xs ys d j within)))

-- one that is there already is not different
pub not_different : {X : Type 0} (xs : List X) (x : X) → Contains xs x → AllPairs (λ a b. a ≢ b) (xs ++ x ∷ []) → ⊥
not_different xs x found h =
    h found.0 (length xs) x found.1 (let e : length (xs ++ x ∷ []) ≡ length xs + 1 = length-append xs (x ∷ []) in omega (arith, e))
    (get_or_append_left xs (x ∷ []) x found.0 found.1 ∙ (found.2 ∙ sym (get_or-append_seam xs x [] x)))
