-- The names of one place, taken in two turns.
use Rattle.std.proofs.Common.{◌≡◌, ℕ, suc, List, [], ◌∷◌, ◌++◌, length, map, refl, sym, ap, ◌∙◌}
use Rattle.std.proofs.lemmas.List.{append_assoc, append-nil}
use Rattle.netlist_import.specs.Fresh.{fresh, names_after}
use Rattle.netlist_import.specs.Shapes.{shaped}
use Rattle.netlist_import.specs.declared.shapes.Formal.{Formal}
use Rattle.netlist_import.specs.declared.shapes.Shape.{Shape}

pub as_many_names : (taken names : List (List ℕ)) → length (names_after taken names) ≡ length names
unfolding names_after
as_many_names taken [] = refl
as_many_names taken (name ∷ names) = ap (λ (n : ℕ). suc n)
    (as_many_names (taken ++ fresh taken name ∷ []) names)

pub names_both : (taken names more : List (List ℕ)) →
    names_after taken (names ++ more) ≡ names_after taken names
    ++ names_after (taken ++ names_after taken names) more
unfolding names_after
names_both taken [] more = ap (λ (t : List (List ℕ)). names_after t more) (sym (append-nil taken))
names_both taken (name ∷ names) more =
    let here = fresh taken name in
    let next = taken ++ here ∷ [] in
    ap (λ (rest : List (List ℕ)). here ∷ rest)
    (names_both next names more
    ∙ ap (λ (t : List (List ℕ)). names_after next names ++ names_after t more)
    (append_assoc taken (here ∷ []) (names_after next names)))

pub shaped_both : (names more : List (List ℕ)) (ports others : List (List Formal)) → length names
    ≡ length ports →
    shaped (names ++ more) (ports ++ others) ≡ shaped names ports ++ shaped more others
unfolding shaped
shaped_both [] more [] others e = refl
shaped_both [] more (ps ∷ ports) others e = absurd (cc)
shaped_both (name ∷ names) more [] others e = absurd (cc)
shaped_both (name ∷ names) more (ps ∷ ports) others e =
    ap (λ (rest : List Shape). record { name = name; ports = ps } ∷ rest)
    (shaped_both names more ports others (cc))

-- ---- one name more

pub mapped_more : {A B : Type 0} (f : A → B) (xs : List A) (x : A) → map f (xs ++ x ∷ []) ≡ map f xs
    ++ f x ∷ []
mapped_more f [] x = refl
mapped_more {A} {B} f (y ∷ xs) x = ap (λ (ys : List B). f y ∷ ys) (mapped_more f xs x)

pub as_many : {A B C : Type 0} (f : A → B) (g : A → C) (xs : List A) → length (map f xs)
    ≡ length (map g xs)
as_many f g [] = refl
as_many f g (x ∷ xs) = ap (λ (n : ℕ). suc n) (as_many f g xs)

one_after : (taken names : List (List ℕ)) (name : List ℕ) →
    names_after taken (names ++ name ∷ []) ≡ names_after taken names
    ++ fresh (taken ++ names_after taken names) name ∷ []
unfolding names_after
one_after taken names name = names_both taken names (name ∷ [])

pub names_more : (start now next names : List (List ℕ)) (name : List ℕ) → now ≡ start
    ++ names_after start names →
    next ≡ now ++ fresh now name ∷ [] → next ≡ start ++ names_after start (names ++ name ∷ [])
names_more start now next names name e n =
    let given = names_after start names in
    n ∙ ap (λ (t : List (List ℕ)). t ++ fresh t name ∷ []) e
    ∙ append_assoc start given (fresh (start ++ given) name ∷ [])
    ∙ ap (λ (t : List (List ℕ)). start ++ t) (sym (one_after start names name))

pub shapes_more : (start now names : List (List ℕ)) (name : List ℕ) (ports : List (List Formal))
    (p : List Formal)
    (before shapes next : List Shape) → length names ≡ length ports → now ≡ start
    ++ names_after start names →
    shapes ≡ before ++ shaped (names_after start names) ports →
    next ≡ shapes ++ record { name = fresh now name; ports = p } ∷ [] →
    next ≡ before ++ shaped (names_after start (names ++ name ∷ [])) (ports ++ p ∷ [])
unfolding shaped
shapes_more start now names name ports p before shapes next same e s n =
    let given = names_after start names in
    let here : List Shape = record { name = fresh (start ++ given) name; ports = p } ∷ [] in
    n ∙ ap (λ (t : List (List ℕ)). shapes ++ record { name = fresh t name; ports = p } ∷ []) e
    ∙ ap (λ (t : List Shape). t ++ here) s ∙ append_assoc before (shaped given ports) here
    ∙ ap (λ (t : List Shape). before ++ t)
    (sym (shaped_both given (fresh (start ++ given) name ∷ []) ports (p ∷ [])
    (as_many_names start names ∙ same)))
    ∙ ap (λ (t : List (List ℕ)). before ++ shaped t (ports ++ p ∷ []))
    (sym (one_after start names name))

-- The names of one place, taken in two turns, with what they name.
pub shapes_both : (none names wanted more : List (List ℕ)) (ports others : List (List Formal))
    (before first all : List Shape) →
    length wanted ≡ length ports → none ≡ [] → before ≡ [] → names ≡ none
    ++ names_after none wanted →
    first ≡ before ++ shaped (names_after none wanted) ports → all ≡ first
    ++ shaped (names_after names more) others →
    all ≡ shaped (names_after [] (wanted ++ more)) (ports ++ others)
shapes_both none names wanted more ports others before first all same z b n f e =
    let given = names_after [] wanted in
    let named : names ≡ given = n ∙ ap (λ (t : List (List ℕ)). t ++ names_after t wanted) z in
    let made : first ≡ shaped given ports =
    f ∙ ap (λ (t : List Shape). t ++ shaped (names_after none wanted) ports) b
    ∙ ap (λ (t : List (List ℕ)). shaped (names_after t wanted) ports) z in
    e ∙ ap (λ (t : List Shape). t ++ shaped (names_after names more) others) made
    ∙ ap (λ (t : List (List ℕ)). shaped given ports ++ shaped (names_after t more) others) named
    ∙ sym (shaped_both given (names_after given more) ports others (as_many_names [] wanted ∙ same))
    ∙ ap (λ (t : List (List ℕ)). shaped t (ports ++ others)) (sym (names_both [] wanted more))
