-- Lists with a cell for each slot.
use Rattle.std.proofs.Common.{◌≡◌, ℕ, zero, suc, ◌+◌, ◌<◌, List, [], ◌∷◌, ◌++◌, length, get_or, take, map, refl, sym, ap, ◌∙◌, arith, add-one}
use Rattle.std.specs.List.{AllZip, zip}
use Rattle.std.proofs.lemmas.List.{take_more}
use Rattle.scald_base.specs.Clock.{back}
use Rattle.wave_core.specs.Cell.{Cells}
use Rattle.wave_core.specs.Slots.{IsPeriod, slots_from, slots, earlier}
use Rattle.scald_base.proofs.Back.{back_lt}

length_slots_from : {T : Type 0} (n i : ℕ) (f : ℕ → T) → length (slots_from n i f) ≡ n
length_slots_from zero i f = refl
length_slots_from (suc n) i f = ap suc (length_slots_from n (i + 1) f)

get_or_slots_from : {T : Type 0} (n i k : ℕ) (f : ℕ → T) (d : T) → k < n → get_or (slots_from n i f) k d ≡ f (i + k)
get_or_slots_from zero i k f d below = absurd (omega arith)
get_or_slots_from (suc n) i zero f d below = ap f (omega arith)
get_or_slots_from (suc n) i (suc k) f d below = get_or_slots_from n (i + 1) k f d (omega arith) ∙ ap f (omega arith)

pub length_slots : {T : Type 0} (n : ℕ) (f : ℕ → T) → length (slots n f) ≡ n
length_slots n f = length_slots_from n 0 f

pub get_or_slots : {T : Type 0} (n k : ℕ) (f : ℕ → T) (d : T) → k < n → get_or (slots n f) k d ≡ f k
get_or_slots n k f d below = get_or_slots_from n 0 k f d below ∙ ap f (omega arith)

-- a slot of a list by slots, some slots before
pub earlier_slots : {T : Type 0} (k : Cells T) (n : ℕ) (f : ℕ → T) (t o : ℕ) → 0 < n → earlier k (slots n f) t o ≡ f (back n t o)
unfolding earlier
earlier_slots k n f t o some =
    ap (λ (l : ℕ). get_or (slots n f) (back l t o) k.any) (length_slots n f)
    ∙ get_or_slots n (back n t o) f k.any (back_lt n t o some)

slots_from_next : {T : Type 0} (n i : ℕ) (f : ℕ → T) → slots_from n i f ++ f (i + n) ∷ [] ≡ slots_from (suc n) i f
slots_from_next zero i f = ap (λ (j : ℕ). f j ∷ []) (omega arith)
slots_from_next {T} (suc n) i f =
    ap (λ (l : List T). f i ∷ l) (ap (λ (j : ℕ). slots_from n (i + 1) f ++ f j ∷ []) (omega arith) ∙ slots_from_next n (i + 1) f)

-- one slot more
pub slots_next : {T : Type 0} (n : ℕ) (f : ℕ → T) → slots n f ++ f n ∷ [] ≡ slots (n + 1) f
slots_next {T} n f =
    ap (λ (j : ℕ). slots n f ++ f j ∷ []) (omega arith) ∙ slots_from_next n 0 f ∙ ap (λ (m : ℕ). slots m f) (sym (add-one n))

-- what a loop over the slots has put together
pub slots_push : {T : Type 0} (n : ℕ) (f : ℕ → T) (cells : List T) (c : T) → cells ≡ slots n f → c ≡ f n → cells ++ c ∷ [] ≡ slots (n + 1) f
slots_push {T} n f cells c so_far is = rw (so_far, is) (slots_next n f)

AllZip_push : {A B : Type 0} (R : A → B → Type 0) (xs : List A) (ys : List B) (x : A) (y : B) → AllZip R xs ys → R x y →
    AllZip R (xs ++ x ∷ []) (ys ++ y ∷ [])
AllZip_push R [] [] x y h r = (r, tt)
AllZip_push R [] (b ∷ ys) x y h r = absurd h
AllZip_push R (a ∷ xs) [] x y h r = absurd h
AllZip_push R (a ∷ xs) (b ∷ ys) x y h r = (h.0, AllZip_push R xs ys x y h.1 r)

-- one cell more, by what is related to it
pub related_push : {A B : Type 0} (R : A → B → Type 0) (xs : List A) (ys : List B) (i : ℕ) (x : A) (y : B) → i < length xs → x ≡ get_or xs i x → R x y →
    AllZip R (take i xs) ys → AllZip R (take (i + 1) xs) (ys ++ y ∷ [])
related_push R xs ys i x y below is r so_far =
    let next : take (i + 1) xs ≡ take i xs ++ x ∷ [] = take_more xs i x below ∙ ap (λ c. take i xs ++ c ∷ []) (sym is) in
    rw next (AllZip_push R (take i xs) ys x y so_far r)

pub length_related : {A B : Type 0} (R : A → B → Type 0) (xs : List A) (ys : List B) → AllZip R xs ys → length ys ≡ length xs
length_related R [] [] h = refl
length_related R [] (y ∷ ys) h = absurd h
length_related R (x ∷ xs) [] h = absurd h
length_related R (x ∷ xs) (y ∷ ys) h = ap suc (length_related R xs ys h.1)

pub length_zip : {A B : Type 0} (xs : List A) (ys : List B) → length xs ≡ length ys → length (zip xs ys) ≡ length xs
length_zip [] ys e = refl
length_zip (x ∷ xs) [] e = absurd (omega arith)
length_zip (x ∷ xs) (y ∷ ys) e = ap suc (length_zip xs ys (omega arith))

-- the pair of the two items at a place
pub zip_at : {A B : Type 0} (xs : List A) (ys : List B) (i : ℕ) (x : A) (y : B) → i < length xs → i < length ys → x ≡ get_or xs i x → y ≡ get_or ys i y →
    (x, y) ≡ get_or (zip xs ys) i (x, y)
zip_at [] ys i x y below below' is is' = absurd (omega arith)
zip_at (a ∷ xs) [] i x y below below' is is' = absurd (omega arith)
zip_at (a ∷ xs) (b ∷ ys) zero x y below below' is is' = λ i. (is i, is' i)
zip_at (a ∷ xs) (b ∷ ys) (suc i) x y below below' is is' = zip_at xs ys i x y (omega arith) (omega arith) is is'

pub period_length : {T : Type 0} (xs : List T) (n : ℕ) → length xs ≡ n → IsPeriod n → IsPeriod (length xs)
period_length xs n e p = rw e p

-- what a call gives of each item, as a list
pub mapped : {A B : Type 0} (R : A → B → Type 0) (f : A → B) (xs : List A) (ys : List B) → ((x : A) (y : B) → R x y → y ≡ f x) →
    AllZip R xs ys → ys ≡ map f xs
mapped R f [] [] is h = refl
mapped R f [] (y ∷ ys) is h = absurd h
mapped R f (x ∷ xs) [] is h = absurd h
mapped R f (x ∷ xs) (y ∷ ys) is h =
    let head : y ≡ f x = is x y h.0 in
    let rest : ys ≡ map f xs = mapped R f xs ys is h.1 in
    λ i. head i ∷ rest i
