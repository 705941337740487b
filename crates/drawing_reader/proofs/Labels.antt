-- What each part of a drawing declares.
use Rattle.std.proofs.Common.{◌≡◌, ℕ, ◌+◌, ◌<◌, ◌≤◌, suc, List, [], ◌∷◌, ◌++◌, length, map, get_or, drop, sym, ap, ◌∙◌, add-one, drop-cons, Option, Some, None}
use Rattle.std.specs.Global.{Vec}
use Rattle.std.proofs.lemmas.List.{append-nil, drop_all}
use Rattle.scald_base.specs.declared.refusal.Place.{Place}
use Rattle.drawing_tree.specs.declared.statement.Assign.{Assign}
use Rattle.drawing_tree.specs.declared.statement.UseStmt.{UseStmt}
use Rattle.drawing_tree.specs.declared.statement.WireStmt.{WireStmt}
use Rattle.drawing_tree.specs.declared.statement.IfStmt.{IfStmt}
use Rattle.drawing_tree.specs.declared.statement.ForStmt.{ForStmt}
use Rattle.drawing_tree.specs.declared.statement.Stmt.{Stmt}
use Rattle.drawing_tree.specs.declared.statement.Stmt.TheVariants as stmt
use Rattle.drawing_tree.specs.declared.drawing.Formal as written
use Rattle.drawing_tree.specs.declared.drawing.MacroDef.{MacroDef}
use Rattle.drawing_grammar.specs.declared.head.Head.{Head}
use Rattle.drawing_tree.specs.Tree.{macro_of, assignment_of, formal_of, statement_of, statements_of, if_of, for_of, else_of}
use Rattle.drawing_tree.proofs.Views.{view_use, view_wire, view_choice, view_if, view_repeated, view_for}
use Rattle.drawing_grammar.specs.declared.declared.Kind.TheVariants.{Constant, Parameter, Formal, Label}
use Rattle.drawing_grammar.specs.DoubleNames.{declaration, constants, parameters, formals, labels, statement_labels, else_labels, head_declared, macros_declared}

-- the item at a place, and those after it
pub dropped : {A : Type 0} (xs : List A) (i : ℕ) (x : A) → i < length xs → x ≡ get_or xs i x → drop i xs ≡ x ∷ drop (i + 1) xs
dropped {A = A} xs i x below is = drop-cons xs i x below ∙ (ap (λ (y : A). y ∷ drop (suc i) xs) (sym is) ∙ ap (λ (n : ℕ). x ∷ drop n xs) (sym (add-one i)))

pub next_constant : (xs : List Assign) (i : ℕ) (x : Assign) (name : List ℕ) (places : List Place) (place : Place) (more : List Place) →
    i < length xs → x ≡ get_or xs i x → name ≡ x.name → places ≡ place ∷ more → constants (map assignment_of (drop i xs))
    places ≡ (declaration 0 Constant name place ∷ []) ++ constants (map assignment_of (drop (i + 1) xs)) more
next_constant xs i x name places place more below is named split =
    let behind = constants (map assignment_of (drop (i + 1) xs)) more in
    ap (λ (ps : List Place). constants (map assignment_of (drop i xs)) ps) split
    ∙ (ap (λ (ys : List Assign). constants (map assignment_of ys) (place ∷ more)) (dropped xs i x below is)
    ∙ ap (λ (n : List ℕ). declaration 0 Constant n place ∷ behind) (sym named))

pub next_parameter : (scope : ℕ) (xs : List Assign) (i : ℕ) (x : Assign) (name : List ℕ) (places : List Place) (place : Place) (more : List Place) →
    i < length xs → x ≡ get_or xs i x → name ≡ x.name → places ≡ place ∷ more → parameters scope (map assignment_of (drop i xs))
    places ≡ (declaration scope Parameter name place ∷ []) ++ parameters scope (map assignment_of (drop (i + 1) xs)) more
next_parameter scope xs i x name places place more below is named split =
    let behind = parameters scope (map assignment_of (drop (i + 1) xs)) more in
    ap (λ (ps : List Place). parameters scope (map assignment_of (drop i xs)) ps) split
    ∙ (ap (λ (ys : List Assign). parameters scope (map assignment_of ys) (place ∷ more)) (dropped xs i x below is)
    ∙ ap (λ (n : List ℕ). declaration scope Parameter n place ∷ behind) (sym named))

pub next_formal : (scope : ℕ) (xs : List written.Formal) (i : ℕ) (x : written.Formal) (name : List ℕ) (places : List Place) (place : Place)
    (more : List Place) → i < length xs → x ≡ get_or xs i x → name ≡ x.base → places ≡ place ∷ more → formals scope
    (map formal_of (drop i xs)) places ≡ (declaration scope Formal name place ∷ []) ++ formals scope (map formal_of (drop (i + 1) xs)) more
next_formal scope xs i x name places place more below is named split =
    let behind = formals scope (map formal_of (drop (i + 1) xs)) more in
    ap (λ (ps : List Place). formals scope (map formal_of (drop i xs)) ps) split
    ∙ (ap (λ (ys : List written.Formal). formals scope (map formal_of ys) (place ∷ more)) (dropped xs i x below is)
    ∙ ap (λ (n : List ℕ). declaration scope Formal n place ∷ behind) (sym named))

pub next_statement : (scope : ℕ) (ss : List Stmt) (i : ℕ) (s : Stmt) → i < length ss → s ≡ get_or ss i s →
    labels scope (statements_of (drop i ss)) ≡ statement_labels scope (statement_of s) ++ labels scope (statements_of (drop (i + 1) ss))
unfolding labels
next_statement scope ss i s below is = ap (λ (xs : List Stmt). labels scope (statements_of xs)) (dropped ss i s below is)

pub use_labels : (scope : ℕ) (u : UseStmt) → statement_labels scope (statement_of (stmt.Use u)) ≡ declaration scope Label u.label u.place ∷ []
unfolding statement_labels
use_labels scope u = ap (statement_labels scope) (view_use u)

pub wire_labels : (scope : ℕ) (w : WireStmt) → statement_labels scope (statement_of (stmt.Wire w)) ≡ []
unfolding statement_labels
wire_labels scope w = ap (statement_labels scope) (view_wire w)

pub choice_labels : (scope : ℕ) (s : IfStmt) → statement_labels scope (statement_of (stmt.If s)) ≡ statement_labels scope (if_of s)
choice_labels scope s = ap (statement_labels scope) (view_choice s)

pub repeated_labels : (scope : ℕ) (s : ForStmt) → statement_labels scope (statement_of (stmt.For s)) ≡ statement_labels scope (for_of s)
repeated_labels scope s = ap (statement_labels scope) (view_repeated s)

-- the labels of a statement, by its kind
pub ruleset labels_by_kind = (use_labels, wire_labels, choice_labels, repeated_labels)

pub for_labels : (scope : ℕ) (s : ForStmt) → statement_labels scope (for_of s) ≡ labels scope (statements_of s.body.items)
unfolding statement_labels
for_labels scope s = ap (statement_labels scope) (view_for s)

pub if_labels : (scope : ℕ) (s : IfStmt) → statement_labels scope (if_of s) ≡ labels scope (statements_of s.yes.items) ++ else_labels scope (else_of s.no)
unfolding statement_labels
if_labels scope s = ap (statement_labels scope) (view_if s)

-- the labels of an IF without ELSE, and with it
pub then_labels : (scope : ℕ) (s : IfStmt) (behind_then : List Stmt) → s.no ≡ None → behind_then ≡ s.yes.items → statement_labels scope (if_of s) ≡ labels scope (statements_of behind_then)
unfolding else_labels
then_labels scope s ss none e =
    if_labels scope s
    ∙ (ap (λ (o : Option (Vec Stmt)). labels scope (statements_of s.yes.items) ++ else_labels scope (else_of o)) none
    ∙ (append-nil (labels scope (statements_of s.yes.items)) ∙ ap (λ (xs : List Stmt). labels scope (statements_of xs)) (sym e)))

pub both_labels : (scope : ℕ) (s : IfStmt) (other : Vec Stmt) (behind_then behind_else : List Stmt) → s.no ≡ Some other → behind_then ≡ s.yes.items →
    behind_else ≡ other.items →
    statement_labels scope (if_of s) ≡ labels scope (statements_of behind_then) ++ labels scope (statements_of behind_else)
unfolding else_labels
both_labels scope s other ss es some e f =
    if_labels scope s
    ∙ (ap (λ (o : Option (Vec Stmt)). labels scope (statements_of s.yes.items) ++ else_labels scope (else_of o)) some
    ∙ (ap (λ (xs : List Stmt). labels scope (statements_of xs) ++ labels scope (statements_of other.items)) (sym e)
    ∙ ap (λ (xs : List Stmt). labels scope (statements_of ss) ++ labels scope (statements_of xs)) (sym f)))

pub label_of : (scope : ℕ) (u : UseStmt) (s : Stmt) (name : List ℕ) → s ≡ stmt.Use u → name ≡ u.label → statement_labels scope (statement_of s) ≡ declaration scope Label name u.place ∷ []
label_of scope u s name e f = ap (λ (x : Stmt). statement_labels scope (statement_of x)) e ∙ (use_labels scope u ∙ ap (λ (n : List ℕ). declaration scope Label n u.place ∷ []) (sym f))

pub no_label : (scope : ℕ) (w : WireStmt) (s : Stmt) → s ≡ stmt.Wire w → statement_labels scope (statement_of s) ≡ []
no_label scope w s e = ap (λ (x : Stmt). statement_labels scope (statement_of x)) e ∙ wire_labels scope w

-- no statement is left
pub no_labels : (scope : ℕ) (ss : List Stmt) (i : ℕ) → length ss ≤ i → labels scope (statements_of (drop i ss)) ≡ []
unfolding labels
no_labels scope ss i past = ap (λ (xs : List Stmt). labels scope (statements_of xs)) (drop_all i ss past)

pub next_macro : (xs : List MacroDef) (i : ℕ) (x : MacroDef) (heads : List Head) (head : Head) (more : List Head) → i < length xs →
    x ≡ get_or xs i x → heads ≡ head ∷ more → macros_declared i (map macro_of (drop i xs))
    heads ≡ (head_declared i (macro_of x) head ++ labels i (macro_of x).body) ++ macros_declared (i + 1) (map macro_of (drop (i + 1) xs)) more
next_macro xs i x heads head more below is split =
    ap (λ (hs : List Head). macros_declared i (map macro_of (drop i xs)) hs) split
    ∙ (ap (λ (ys : List MacroDef). macros_declared i (map macro_of ys) (head ∷ more)) (dropped xs i x below is)
    ∙ ap (λ (n : ℕ). (head_declared i (macro_of x) head ++ labels i (macro_of x).body) ++ macros_declared n (map macro_of (drop (i + 1) xs)) more) (sym (add-one i)))
