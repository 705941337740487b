-- Lists that grow at their end.
use Rattle.std.proofs.Common.{◌≡◌, Bool, List, [], ◌∷◌, ◌++◌, map, refl, ap, append_assoc}
use Rattle.std.proofs.lemmas.List.{append-nil}
use Rattle.scald_base.specs.declared.refusal.Place.{Place}
use Rattle.drawing_tree.specs.declared.statement.Assign.{Assign}
use Rattle.drawing_tree.specs.declared.statement.Stmt.{Stmt}
use Rattle.drawing_tree.specs.declared.drawing.MacroDef.{MacroDef}
use Rattle.drawing_tree.specs.Tree as tree
use Rattle.drawing_grammar.specs.declared.head.Head.{Head}
use Rattle.drawing_grammar.specs.Sketch as s
use Rattle.drawing_reader.specs.Statements.{followed}

pub more_mapped : {A B : Type 0} (f : A → B) (xs : List A) (x : A) (ys : List B) → map f (xs ++ x ∷ []) ++ ys ≡ map f xs ++ f x ∷ ys
more_mapped f [] x ys = refl
more_mapped f (y ∷ xs) x ys = ap (λ zs. f y ∷ zs) (more_mapped f xs x ys)

pub joined_terms : (hold : Bool) (place : Place) {xs ys : List tree.Term} →
    xs ≡ ys → ◌≡◌ {A = tree.Connection} (record { terms = xs; hold = hold; place = place }) (record { terms = ys; hold = hold; place = place })
joined_terms hold place e = ap (λ (ts : List tree.Term). let c : tree.Connection = record { terms = ts; hold = hold; place = place } in c) e

pub placed_more : {A B : Type 0} (f : A → B) (xs : List A) (x : A) (ps : List Place) (p : Place) (more : s.PlacedList B) →
    ◌≡◌ {A = s.PlacedList B} (record { items = map f xs ++ f x ∷ more.items; places = ps ++ p ∷ more.places })
    (record { items = map f (xs ++ x ∷ []) ++ more.items; places = (ps ++ p ∷ []) ++ more.places })
placed_more f xs x ps p more = rw (more_mapped f xs x more.items, append_assoc) refl

pub placed_all : {B : Type 0} (xs : List B) (ps : List Place) → ◌≡◌ {A = s.PlacedList B} (record { items = xs ++ []; places = ps ++ [] }) (record { items = xs; places = ps })
placed_all xs ps = rw (append-nil xs, append-nil ps) refl

pub macros_more : (xs : List MacroDef) (x : MacroDef) (hs : List Head) (h : Head) (more : s.HeadedMacros) →
    ◌≡◌ {A = s.HeadedMacros} (record { macros = map tree.macro_of xs ++ tree.macro_of x ∷ more.macros; heads = hs ++ h ∷ more.heads })
    (record { macros = map tree.macro_of (xs ++ x ∷ []) ++ more.macros; heads = (hs ++ h ∷ []) ++ more.heads })
macros_more xs x hs h more = rw (more_mapped tree.macro_of xs x more.macros, append_assoc) refl

pub macros_all : (xs : List tree.Macro) (hs : List Head) → ◌≡◌ {A = s.HeadedMacros} (record { macros = xs ++ []; heads = hs ++ [] }) (record { macros = xs; heads = hs })
macros_all xs hs = rw (append-nil xs, append-nil hs) refl

pub constants_more : (xs : List Assign) (x : Assign) (ps : List Place) (p : Place) (qs : List Place) (q : Place) (more : s.PlacedConstants) →
    ◌≡◌ {A = s.PlacedConstants} (record {
      constants = map tree.assignment_of xs ++ tree.assignment_of x ∷ more.constants;
      places = ps ++ p ∷ more.places;
      name_places = qs ++ q ∷ more.name_places;
    }) (record {
      constants = map tree.assignment_of (xs ++ x ∷ []) ++ more.constants;
      places = (ps ++ p ∷ []) ++ more.places;
      name_places = (qs ++ q ∷ []) ++ more.name_places;
    })
constants_more xs x ps p qs q more =
    rw (more_mapped tree.assignment_of xs x more.constants, append_assoc ps (p ∷ []) more.places, append_assoc qs (q ∷ []) more.name_places) refl

pub constants_all : (xs : List tree.Assignment) (ps qs : List Place) →
    ◌≡◌ {A = s.PlacedConstants} (record { constants = xs ++ []; places = ps ++ []; name_places = qs ++ [] })
    (record { constants = xs; places = ps; name_places = qs })
constants_all xs ps qs = rw (append-nil xs, append-nil ps, append-nil qs) refl

pub statements_more : (xs : List Stmt) (x : Stmt) (more : tree.Statements) →
    followed (map tree.statement_of xs) (tree.cons (tree.statement_of x) more) ≡ followed (map tree.statement_of (xs ++ x ∷ [])) more
statements_more [] x more = refl
statements_more (y ∷ xs) x more = ap (λ (ss : tree.Statements). tree.cons (tree.statement_of y) ss) (statements_more xs x more)

pub statements_all : (xs : List tree.Statement) → followed xs tree.nil ≡ tree.listed xs
statements_all [] = refl
statements_all (x ∷ xs) = ap (λ (ss : tree.Statements). tree.cons x ss) (statements_all xs)
