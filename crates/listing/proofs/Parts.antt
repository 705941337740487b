-- Texts that are put one after another, and parts of them.
use Rattle.std.proofs.Common.{◌≡◌, ℕ, zero, suc, ◌+◌, ◌<◌, List, [], ◌∷◌, ◌++◌, length, get_or, take, drop, map, append_assoc, append-nil, refl, arith, add-one, sym, ap, ◌∙◌, subst}
use Rattle.std.specs.Prelude.{Result, OnErr, OnOk}
use Rattle.std.specs.List.{concat, flat_map}
use Rattle.std.proofs.lemmas.Result.{on_err_weaker, on_ok_weaker}
use Rattle.listing.specs.Text.{HasPart, line}

pub part_all : (old new text : List ℕ) → new ≡ old ++ text → HasPart old new text
part_all old new text added = record { part = text; rest = []; added = added; is = append-nil text }

-- a part of the first of two texts, and of the second after the whole first one
pub part_first : (old new first second : List ℕ) → HasPart old new first → HasPart old new (first ++ second)
part_first old new first second h =
    record { part = h.part; rest = h.rest ++ second; added = h.added; is = sym (append_assoc h.part h.rest second) ∙ ap (λ (l : List ℕ). l ++ second) h.is }

pub part_second : (old between new first second : List ℕ) → between ≡ old ++ first → HasPart between new second → HasPart old new (first ++ second)
part_second old between new first second before h =
    record {
      part = first ++ h.part;
      rest = h.rest;
      added = h.added ∙ ap (λ (l : List ℕ). l ++ h.part) before ∙ append_assoc old first h.part;
      is = append_assoc first h.part h.rest ∙ ap (λ (l : List ℕ). first ++ l) h.is;
    }

-- the whole of both
pub both : (old between new first second : List ℕ) → between ≡ old ++ first → new ≡ between ++ second → new ≡ old ++ (first ++ second)
both old between new first second before added = added ∙ ap (λ (l : List ℕ). l ++ second) before ∙ append_assoc old first second

-- ---- the last of two calls

pub ok_second : {T E : Type 0} (r : Result T E) (old between new first second : List ℕ) → between ≡ old ++ first → OnOk r (new ≡ between ++ second) → OnOk r (new ≡ old ++ (first ++ second))
ok_second r old between new first second before h = on_ok_weaker r (both old between new first second before) h

pub err_second : {T E : Type 0} (r : Result T E) (old between new first second : List ℕ) → between ≡ old ++ first → OnErr r (HasPart between new second) → OnErr r (HasPart old new (first ++ second))
err_second r old between new first second before h = on_err_weaker r (part_second old between new first second before) h

-- of two, the second one puts nothing
pub err_none : {T E : Type 0} (r : Result T E) (old between new first second : List ℕ) → between ≡ old ++ first → OnErr r (new ≡ between) → OnErr r (HasPart old new (first ++ second))
err_none r old between new first second before h =
    on_err_weaker r (λ (same : new ≡ between). part_first old new first second (part_all old new first (same ∙ before))) h

-- ---- three texts that are one

pub three_first : (old new a b c text : List ℕ) → (a ++ b) ++ c ≡ text → HasPart old new a → HasPart old new text
three_first old new a b c text is h = subst (λ (t : List ℕ). HasPart old new t) is (part_first old new (a ++ b) c (part_first old new a b h))

pub three_second : (old one new a b c text : List ℕ) → (a ++ b) ++ c ≡ text → one ≡ old ++ a → HasPart one new b → HasPart old new text
three_second old one new a b c text is first h = subst (λ (t : List ℕ). HasPart old new t) is (part_first old new (a ++ b) c (part_second old one new a b first h))

pub three_ok : {T E : Type 0} (r : Result T E) (old one two new a b c text : List ℕ) → (a ++ b) ++ c ≡ text → one ≡ old ++ a → two ≡ one ++ b → OnOk r (new ≡ two ++ c) → OnOk r (new ≡ old ++ text)
three_ok r old one two new a b c text is first second h =
    subst (λ (t : List ℕ). OnOk r (new ≡ old ++ t)) is (ok_second r old two new (a ++ b) c (both old one two a b first second) h)

pub three_err : {T E : Type 0} (r : Result T E) (old one two new a b c text : List ℕ) →
    (a ++ b) ++ c ≡ text → one ≡ old ++ a → two ≡ one ++ b → OnErr r (HasPart two new c) → OnErr r (HasPart old new text)
three_err r old one two new a b c text is first second h =
    subst (λ (t : List ℕ). OnErr r (HasPart old new t)) is (err_second r old two new (a ++ b) c (both old one two a b first second) h)

-- ---- the texts of the items of a list

flat_split : {X : Type 0} (f : X → List ℕ) (xs : List X) (i : ℕ) (d : X) → i < length xs →
    flat_map f xs ≡ flat_map f (take i xs) ++ (f (get_or xs i d) ++ flat_map f (drop (suc i) xs))
flat_split f [] i d within = absurd (omega arith)
flat_split f (x ∷ xs) zero d within = refl
flat_split f (x ∷ xs) (suc i) d within =
    ap (λ (l : List ℕ). f x ++ l) (flat_split f xs i d (omega arith)) ∙ sym (append_assoc (f x) (flat_map f (take i xs)) (f (get_or xs i d) ++ flat_map f (drop (suc i) xs)))

-- the text of one item more
flat_more : {X : Type 0} (f : X → List ℕ) (xs : List X) (i : ℕ) (d : X) → i < length xs → flat_map f (take (suc i) xs) ≡ flat_map f (take i xs) ++ f (get_or xs i d)
flat_more f [] i d within = absurd (omega arith)
flat_more f (x ∷ xs) zero d within = append-nil (f x)
flat_more f (x ∷ xs) (suc i) d within = ap (λ (l : List ℕ). f x ++ l) (flat_more f xs i d (omega arith)) ∙ sym (append_assoc (f x) (flat_map f (take i xs)) (f (get_or xs i d)))

pub item_added : {X : Type 0} (f : X → List ℕ) (xs : List X) (i : ℕ) (d : X) (old between new : List ℕ) → i < length xs →
    between ≡ old ++ flat_map f (take i xs) → new ≡ between ++ f (get_or xs i d) → new ≡ old ++ flat_map f (take (i + 1) xs)
item_added f xs i d old between new within before added =
    rw (add-one, flat_more f xs i d within) (both old between new (flat_map f (take i xs)) (f (get_or xs i d)) before added)

-- a part of the text of one item, after the texts of those before it
pub part_of_item : {X : Type 0} (f : X → List ℕ) (xs : List X) (i : ℕ) (d : X) (old between new : List ℕ) → i < length xs →
    between ≡ old ++ flat_map f (take i xs) → HasPart between new (f (get_or xs i d)) → HasPart old new (flat_map f xs)
part_of_item f xs i d old between new within before h =
    rw (flat_split f xs i d within)
    (part_second old between new (flat_map f (take i xs)) (f (get_or xs i d) ++ flat_map f (drop (suc i) xs)) before
    (part_first between new (f (get_or xs i d)) (flat_map f (drop (suc i) xs)) h))

concat_map : {X : Type 0} (f : X → List ℕ) (xs : List X) → concat (map f xs) ≡ flat_map f xs
concat_map f [] = refl
concat_map f (x ∷ xs) = ap (λ (l : List ℕ). f x ++ l) (concat_map f xs)

-- a line, as its pieces and the byte at its end
pub line_map : {X : Type 0} (f : X → List ℕ) (xs : List X) → line (map f xs) ≡ flat_map f xs ++ 10 ∷ []
line_map f xs = ap (λ (l : List ℕ). l ++ 10 ∷ []) (concat_map f xs)

-- ---- texts that are put front by front

-- What was put is a front of the text, and this is the rest.
pub record Lacks (old now rest text : List ℕ) : Type 0 where
  pub front : List ℕ
  pub added : now ≡ old ++ front
  pub is : front ++ rest ≡ text

pub lacks_all : (old rest text : List ℕ) → rest ≡ text → Lacks old old rest text
lacks_all old rest text same = record { front = []; added = sym (append-nil old); is = same }

pub lacks_less : (old now new piece rest text : List ℕ) → Lacks old now (piece ++ rest) text → new ≡ now ++ piece → Lacks old new rest text
lacks_less old now new piece rest text l added =
    record { front = l.front ++ piece; added = both old now new l.front piece l.added added; is = append_assoc l.front piece rest ∙ l.is }

-- a part of the next piece
pub part_of_rest : (old now new piece rest text : List ℕ) → Lacks old now (piece ++ rest) text → HasPart now new piece → HasPart old new text
part_of_rest old now new piece rest text l h =
    subst (λ (t : List ℕ). HasPart old new t) l.is (part_second old now new l.front (piece ++ rest) l.added (part_first now new piece rest h))

-- the last piece
pub lacks_none : (old now new piece text : List ℕ) → Lacks old now (piece ++ []) text → new ≡ now ++ piece → new ≡ old ++ text
lacks_none old now new piece text l added =
    both old now new l.front piece l.added added ∙ ap (λ (t : List ℕ). old ++ t) (ap (λ (t : List ℕ). l.front ++ t) (sym (append-nil piece)) ∙ l.is)
