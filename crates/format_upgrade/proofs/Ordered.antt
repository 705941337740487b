-- Statements in an order that is asked for, one after the other.
use Rattle.std.proofs.Common.{◌≡◌, ℕ, ◌+◌, ◌<◌, ◌≤◌, ◌∙◌, List, [], ◌∷◌, ◌++◌, length, map, take, drop, get_or, true, false, refl, sym, ap, append_assoc}
use Rattle.std.specs.Prelude.{reverse, ◌==◌}
use Rattle.std.proofs.lemmas.List.{map_push, take_more, take_all, drop_more, drop-map, take-map, reverse-append, map-id}
use Rattle.drawing_tree.specs.declared.statement.Stmt.{Stmt}
use Rattle.drawing_tree.specs.Tree.{Statement, Statements, cons, listed, statement_of, statements_of, Macro, Drawing}
use Rattle.format_upgrade.specs.declared.turned.Order.{Order}
use Rattle.format_upgrade.specs.declared.turned.Order.TheVariants.{Kept, Reversed}
use Rattle.format_upgrade.specs.Upgraded.{turned_statement, upgraded}
use Rattle.format_upgrade.specs.Order.{in_order_drawing, in_order_statement, in_order_statements, in_order_macro}

-- each by itself is all together
pub listed_in_order : (o : Order) (ss : List Statement) → listed (map (in_order_statement o) ss) ≡ in_order_statements o (listed ss)
listed_in_order Kept [] = refl
listed_in_order Kept (s ∷ ss) = ap (λ (rest : Statements). cons s rest) (listed_in_order Kept ss)
listed_in_order Reversed [] = refl
listed_in_order Reversed (s ∷ ss) = ap (λ (rest : Statements). cons (turned_statement s) rest) (listed_in_order Reversed ss)

-- a copy of one more
pub copied_more : {X Y Z : Type 0} (f : X → Z) (g : Y → Z) (copies : List X) (xs : List Y) (i : ℕ) (x : Y) (copy : X) → i < length xs → x ≡ get_or xs i x →
    f copy ≡ g x → map f copies ≡ map g (take i xs) → map f (copies ++ copy ∷ []) ≡ map g (take (i + 1) xs)
copied_more f g copies xs i x copy below here same so_far =
    map_push f copies copy
    ∙ ap (λ zs. zs ++ f copy ∷ []) so_far
    ∙ ap (λ z. map g (take i xs) ++ z ∷ []) same
    ∙ sym (map_push g (take i xs) x)
    ∙ ap (map g) (sym (take_more xs i x below ∙ ap (λ y. take i xs ++ y ∷ []) (sym here)))

map_twice : {X Y Z : Type 0} (f : Y → Z) (g : X → Y) (xs : List X) → map (λ x. f (g x)) xs ≡ map f (map g xs)
map_twice f g [] = refl
map_twice f g (x ∷ xs) = ap (λ zs. f (g x) ∷ zs) (map_twice f g xs)

-- copies of all
pub copied_all : {X Y Z : Type 0} (h : X → Z) (f : Z → Z) (g : Y → Z) (copies : List X) (xs : List Y) (i : ℕ) → length xs ≤ i →
    map h copies ≡ map (λ x. f (g x)) (take i xs) → map h copies ≡ map f (map g xs)
copied_all h f g copies xs i all so_far = so_far ∙ ap (map (λ x. f (g x))) (take_all i xs all) ∙ map_twice f g xs

pub statements_copied : (o : Order) (copies body : List Stmt) (i : ℕ) → length body ≤ i →
    map statement_of copies ≡ map (λ s. in_order_statement o (statement_of s)) (take i body) → statements_of copies ≡ in_order_statements o (statements_of body)
statements_copied o copies body i all so_far =
    ap listed (copied_all statement_of (in_order_statement o) statement_of copies body i all so_far) ∙ listed_in_order o (map statement_of body)

-- a copy of the one before those that are copied, last first
pub reversed_more : {X Z : Type 0} (f : X → Z) (copies xs : List X) (i : ℕ) (x copy : X) → i < length xs → x ≡ get_or xs i x → f copy ≡ f x →
    map f copies ≡ reverse (map f (drop (i + 1) xs)) → map f (copies ++ copy ∷ []) ≡ reverse (map f (drop i xs))
reversed_more f copies xs i x copy below here same so_far =
    let next : drop i xs ≡ x ∷ drop (i + 1) xs = drop_more xs i x below ∙ ap (λ y. y ∷ drop (i + 1) xs) (sym here) in
    map_push f copies copy
    ∙ ap (λ zs. zs ++ f copy ∷ []) so_far
    ∙ ap (λ z. reverse (map f (drop (i + 1) xs)) ++ z ∷ []) same
    ∙ sym (reverse-append (f x ∷ []) (map f (drop (i + 1) xs)))
    ∙ ap (λ ys. reverse (map f ys)) (sym next)

-- a copy of one more, after others
pub copied_behind : {X Z : Type 0} (f : X → Z) (front : List Z) (copies xs : List X) (i : ℕ) (x copy : X) → i < length xs → x ≡ get_or xs i x → f copy ≡ f x →
    map f copies ≡ front ++ map f (take i xs) → map f (copies ++ copy ∷ []) ≡ front ++ map f (take (i + 1) xs)
copied_behind f front copies xs i x copy below here same so_far =
    map_push f copies copy
    ∙ ap (λ zs. zs ++ f copy ∷ []) so_far
    ∙ append_assoc front (map f (take i xs)) (f copy ∷ [])
    ∙ ap (λ zs. front ++ zs) (sym (map_push f (take i xs) copy) ∙ copied_more f f (take i xs) xs i x copy below here same refl)

-- all of them, the first so many last first
pub reversed_all : {X Z : Type 0} (f : X → Z) (copies xs : List X) (n i : ℕ) → length (drop n xs) ≤ i →
    map f copies ≡ reverse (map f (take n xs)) ++ map f (take i (drop n xs)) → map f copies ≡ reverse (take n (map f xs)) ++ drop n (map f xs)
reversed_all f copies xs n i all so_far =
    so_far
    ∙ ap (λ ys. reverse (map f (take n xs)) ++ map f ys) (take_all i (drop n xs) all)
    ∙ ap (λ zs. reverse zs ++ map f (drop n xs)) (sym (take-map f n xs))
    ∙ ap (λ zs. reverse (take n (map f xs)) ++ zs) (sym (drop-map f n xs))

-- ---- a drawing

pub upgraded_first : (o : Order) (d : Drawing) → o ≡ Reversed → (d.version == 1) ≡ true → in_order_drawing 2 o d ≡ upgraded d
upgraded_first o d is h = rw (is, h) refl

pub upgraded_second : (o : Order) (d : Drawing) → o ≡ Kept → (d.version == 1) ≡ false → in_order_drawing 2 o d ≡ upgraded d
upgraded_second o d is h = rw (is, h) (ap (λ (ms : List Macro). record d { version = 2; macros = ms }) (map-id d.macros))

pub kept_same : (d : Drawing) → in_order_drawing d.version Kept d ≡ d
kept_same d = ap (λ (ms : List Macro). record d { macros = ms }) (map-id d.macros)
