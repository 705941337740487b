-- The upgraded drawing differs from the drawing in the order of connections alone, and nests as deep.
use Rattle.std.proofs.Common.{ℕ, List, [], ◌∷◌, map, take, drop, length, refl, sym, subst}
use Rattle.std.specs.Prelude.{All, Contains, reverse}
use Rattle.std.specs.List.{AllByRecursion}
use Rattle.std.proofs.lemmas.List.{reverse-append}
use Rattle.std.proofs.lemmas.List.Elements.{All-head, All-tail, All-cons, All-nil, All-append, All-take, All-drop, All-contains_itself, All-from_recursion, recursion_from_All}
use Rattle.element_kinds.specs.Kinds.{kind_of}
use Rattle.drawing_tree.specs.Tree.{UseStatement, Statement, Use, Wire, If, For, Statements, nil, cons, Otherwise, no_else, else_, Macro}
use Rattle.drawing_grammar.specs.CanonicalDraws.{IsShallowConnection, IsShallowUse, IsShallowStatement, AreShallow, IsShallowOtherwise, IsShallowMacro}
use Rattle.drawing_grammar.specs.Reordered.{IsReorderedUse, IsReorderedStatement, AreReordered, IsReorderedOtherwise, AreReorderedMacros}
use Rattle.macro_expander.specs.Primitives.{first_reversed}
use Rattle.format_upgrade.specs.Upgraded.{turned_selects, turned_use, turned_statement, turned_statements, turned_otherwise, turned_macro}

-- ---- the same connections

all_turned_round : {A : Type 0} (P : A → Type 0) (xs : List A) → All P xs → All P (reverse xs)
all_turned_round P [] h = All-nil P
all_turned_round P (x ∷ xs) h =
    subst (All P) (sym (reverse-append (x ∷ []) xs))
    (All-append P (reverse xs) (x ∷ []) (all_turned_round P xs (All-tail P x xs h)) (All-cons P x [] (All-head P x xs h) (All-nil P)))

all_reversed : {A : Type 0} (P : A → Type 0) (n : ℕ) (xs : List A) → All P xs → All P (first_reversed n xs)
all_reversed P n xs h =
    All-append P (reverse (take n xs)) (drop n xs) (all_turned_round P (take n xs) (All-take P n xs h)) (All-drop P n xs h)

-- ---- in another order

use_reordered : (u : UseStatement) → IsReorderedUse u (turned_use u)
use_reordered u = record {
  rest = refl;
  ins = all_reversed (Contains u.ins) (turned_selects (kind_of u.kind) (length u.ins)) u.ins (All-contains_itself u.ins);
}

use_itself : (u : UseStatement) → IsReorderedUse u u
use_itself u = record { rest = refl; ins = All-contains_itself u.ins }

mutual
  statement_reordered : (s : Statement) → IsReorderedStatement s (turned_statement s)
  statement_reordered (Use u) = use_reordered u
  statement_reordered (Wire w) = refl
  statement_reordered (If test ss other place) = (refl, statements_reordered ss, else_reordered other, refl)
  statement_reordered (For var first last ss place) = (refl, refl, refl, statements_reordered ss, refl)

  pub statements_reordered : (ss : Statements) → AreReordered ss (turned_statements ss)
  statements_reordered nil = tt
  statements_reordered (cons s ss) = (statement_reordered s, statements_reordered ss)

  else_reordered : (o : Otherwise) → IsReorderedOtherwise o (turned_otherwise o)
  else_reordered no_else = tt
  else_reordered (else_ ss) = statements_reordered ss

mutual
  statement_itself : (s : Statement) → IsReorderedStatement s s
  statement_itself (Use u) = use_itself u
  statement_itself (Wire w) = refl
  statement_itself (If test ss other place) = (refl, statements_itself ss, else_itself other, refl)
  statement_itself (For var first last ss place) = (refl, refl, refl, statements_itself ss, refl)

  pub statements_itself : (ss : Statements) → AreReordered ss ss
  statements_itself nil = tt
  statements_itself (cons s ss) = (statement_itself s, statements_itself ss)

  else_itself : (o : Otherwise) → IsReorderedOtherwise o o
  else_itself no_else = tt
  else_itself (else_ ss) = statements_itself ss

pub macros_reordered : (ms : List Macro) → AreReorderedMacros ms (map turned_macro ms)
macros_reordered [] = tt
macros_reordered (m ∷ ms) = (record { rest = refl; body = statements_reordered m.body }, macros_reordered ms)

pub macros_itself : (ms : List Macro) → AreReorderedMacros ms ms
macros_itself [] = tt
macros_itself (m ∷ ms) = (record { rest = refl; body = statements_itself m.body }, macros_itself ms)

-- ---- as deep

use_shallow : (u : UseStatement) → IsShallowUse u → IsShallowUse (turned_use u)
use_shallow u h = record {
  delays = h.delays;
  params = h.params;
  ins =
      recursion_from_All IsShallowConnection _
      (all_reversed IsShallowConnection (turned_selects (kind_of u.kind) (length u.ins)) u.ins (All-from_recursion IsShallowConnection u.ins h.ins));
  outs = h.outs;
}

mutual
  statement_shallow : (s : Statement) → IsShallowStatement s → IsShallowStatement (turned_statement s)
  statement_shallow (Use u) h = use_shallow u h
  statement_shallow (Wire w) h = h
  statement_shallow (If test ss other place) h = (h.0, statements_shallow ss h.1, else_shallow other h.2)
  statement_shallow (For var first last ss place) h = (h.0, h.1, statements_shallow ss h.2)

  pub statements_shallow : (ss : Statements) → AreShallow ss → AreShallow (turned_statements ss)
  statements_shallow nil h = tt
  statements_shallow (cons s ss) h = (statement_shallow s h.0, statements_shallow ss h.1)

  else_shallow : (o : Otherwise) → IsShallowOtherwise o → IsShallowOtherwise (turned_otherwise o)
  else_shallow no_else h = tt
  else_shallow (else_ ss) h = statements_shallow ss h

pub macros_shallow : (ms : List Macro) → AllByRecursion IsShallowMacro ms → AllByRecursion IsShallowMacro (map turned_macro ms)
macros_shallow [] h = tt
macros_shallow (m ∷ ms) h =
    (record { params = h.0.params; ins = h.0.ins; outs = h.0.outs; body = statements_shallow m.body h.0.body }, macros_shallow ms h.1)
