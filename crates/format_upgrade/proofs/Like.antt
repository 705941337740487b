-- Drawings that are alike, places aside: with their selects in one order, or from version 1 with them in the other order.
use Rattle.std.proofs.Common.{◌≡◌, ℕ, Bool, true, false, cond, List, [], ◌∷◌, length, map, Option, Some, None, refl, ap, sym, subst}
use Rattle.std.specs.Prelude.{⊤}
use Rattle.std.specs.Str.{bytes_eq}
use Rattle.std.proofs.lemmas.List.{length-map}
use Rattle.drawing_tree.specs.Tree.{Connection, UseStatement, WireStatement, Statement, Use, Wire, If, For, Statements, nil, cons, Otherwise, no_else, else_, Macro, Drawing}
use Rattle.drawing_tree.specs.Places.{nowhere, unplaced_connection, unplaced_use, unplaced_statement, unplaced_statements, unplaced_otherwise, unplaced_macro, unplaced}
use Rattle.macro_expander.specs.Primitives.{is_least_first}
use Rattle.macro_expander.specs.Macros.{macro_of}
use Rattle.format_upgrade.specs.Upgraded.{turned_ins, turned_statement, turned_statements, turned_otherwise, turned_macro}

-- ---- how one drawing is like another

-- the selects stand as they did, or in the other order in version 2
pub data Way : Type 0 where
  Kept : Way
  Turned : Way

abbrev pub ins_by : Way → List ℕ → List Connection → List Connection
ins_by Kept kind ins = ins
ins_by Turned kind ins = turned_ins kind ins

abbrev pub AreVersions : Way → ℕ → ℕ → Type 0
AreVersions Kept a b = b ≡ a
AreVersions Turned a b = (is_least_first a ≡ false) × (is_least_first b ≡ true)

pub record IsUseLike (way : Way) (u v : UseStatement) : Type 0 where
  pub label : v.label ≡ u.label
  pub kind : v.kind ≡ u.kind
  pub delay : v.delay ≡ u.delay
  pub fall : v.fall ≡ u.fall
  pub params : v.params ≡ u.params
  pub ins : map unplaced_connection v.ins ≡ map unplaced_connection (ins_by way u.kind u.ins)
  pub outs : map unplaced_connection v.outs ≡ map unplaced_connection u.outs

pub record IsWireLike (w x : WireStatement) : Type 0 where
  pub name : x.name ≡ w.name
  pub range : x.range ≡ w.range
  pub min : x.min ≡ w.min
  pub max : x.max ≡ w.max

abbrev mutual
  pub IsLike : Way → Statement → Statement → Type 0
  IsLike way (Use u) (Use v) = IsUseLike way u v
  IsLike way (Wire w) (Wire x) = IsWireLike w x
  IsLike way (If test ss other place) (If again ts another at) = (again ≡ test) × AreLike way ss ts × IsElseLike way other another
  IsLike way (For var first last ss place) (For name from to ts at) = (name ≡ var) × (from ≡ first) × (to ≡ last) × AreLike way ss ts
  IsLike way _ _ = ⊥

  pub AreLike : Way → Statements → Statements → Type 0
  AreLike way nil nil = ⊤
  AreLike way (cons s ss) (cons t ts) = IsLike way s t × AreLike way ss ts
  AreLike way _ _ = ⊥

  pub IsElseLike : Way → Otherwise → Otherwise → Type 0
  IsElseLike way no_else no_else = ⊤
  IsElseLike way (else_ ss) (else_ ts) = AreLike way ss ts
  IsElseLike way _ _ = ⊥

pub record IsMacroLike (way : Way) (m n : Macro) : Type 0 where
  pub name : n.name ≡ m.name
  pub params : n.params ≡ m.params
  pub ins : n.ins ≡ m.ins
  pub outs : n.outs ≡ m.outs
  pub body : AreLike way m.body n.body

abbrev pub AreMacrosLike : Way → List Macro → List Macro → Type 0
AreMacrosLike way [] [] = ⊤
AreMacrosLike way (m ∷ ms) (n ∷ ns) = IsMacroLike way m n × AreMacrosLike way ms ns
AreMacrosLike way _ _ = ⊥

-- in all that a flat circuit is made of
pub record IsDrawingLike (way : Way) (d e : Drawing) : Type 0 where
  pub versions : AreVersions way d.version e.version
  pub header : e.header ≡ d.header
  pub consts : e.consts ≡ d.consts
  pub places : length e.const_places ≡ length d.const_places
  pub macros : AreMacrosLike way d.macros e.macros
  pub body : AreLike way d.body e.body

-- ---- macros by their names

abbrev pub AreFoundLike : Way → Option Macro → Option Macro → Type 0
AreFoundLike way None None = ⊤
AreFoundLike way (Some m) (Some n) = IsMacroLike way m n
AreFoundLike way _ _ = ⊥

pub found_like : (way : Way) (name : List ℕ) (ms ns : List Macro) → AreMacrosLike way ms ns → AreFoundLike way (macro_of name ms) (macro_of name ns)
found_like way name [] [] h = tt
found_like way name [] (n ∷ ns) h = absurd h
found_like way name (m ∷ ms) [] h = absurd h
found_like way name (m ∷ ms) (n ∷ ns) h =
    subst (λ text. AreFoundLike way (macro_of name (m ∷ ms)) (cond (bytes_eq text name) (Some n) (macro_of name ns))) (sym h.0.name)
    (by (bytes_eq m.name name) (found_like way name ms ns h.1))
  where
    by : (b : Bool) → AreFoundLike way (macro_of name ms) (macro_of name ns) → AreFoundLike way (cond b (Some m) (macro_of name ms)) (cond b (Some n) (macro_of name ns))
    by true more = h.0
    by false more = more

-- ---- a drawing and the one without places

contents_again : (cs : List Connection) → map unplaced_connection (map unplaced_connection cs) ≡ map unplaced_connection cs
contents_again [] = refl
contents_again (c ∷ cs) = ap (λ rest. unplaced_connection c ∷ rest) (contents_again cs)

use_unplaced : (u : UseStatement) → IsUseLike Kept u (unplaced_use u)
use_unplaced u = record {
  label = refl;
  kind = refl;
  delay = refl;
  fall = refl;
  params = refl;
  ins = contents_again u.ins;
  outs = contents_again u.outs;
}

use_placed : (u : UseStatement) → IsUseLike Kept (unplaced_use u) u
use_placed u = record {
  label = refl;
  kind = refl;
  delay = refl;
  fall = refl;
  params = refl;
  ins = sym (contents_again u.ins);
  outs = sym (contents_again u.outs);
}

mutual
  statement_unplaced : (s : Statement) → IsLike Kept s (unplaced_statement s)
  statement_unplaced (Use u) = use_unplaced u
  statement_unplaced (Wire w) = record { name = refl; range = refl; min = refl; max = refl }
  statement_unplaced (If test ss other place) = (refl, statements_unplaced ss, else_unplaced other)
  statement_unplaced (For var first last ss place) = (refl, refl, refl, statements_unplaced ss)

  statements_unplaced : (ss : Statements) → AreLike Kept ss (unplaced_statements ss)
  statements_unplaced nil = tt
  statements_unplaced (cons s ss) = (statement_unplaced s, statements_unplaced ss)

  else_unplaced : (o : Otherwise) → IsElseLike Kept o (unplaced_otherwise o)
  else_unplaced no_else = tt
  else_unplaced (else_ ss) = statements_unplaced ss

mutual
  statement_placed : (s : Statement) → IsLike Kept (unplaced_statement s) s
  statement_placed (Use u) = use_placed u
  statement_placed (Wire w) = record { name = refl; range = refl; min = refl; max = refl }
  statement_placed (If test ss other place) = (refl, statements_placed ss, else_placed other)
  statement_placed (For var first last ss place) = (refl, refl, refl, statements_placed ss)

  statements_placed : (ss : Statements) → AreLike Kept (unplaced_statements ss) ss
  statements_placed nil = tt
  statements_placed (cons s ss) = (statement_placed s, statements_placed ss)

  else_placed : (o : Otherwise) → IsElseLike Kept (unplaced_otherwise o) o
  else_placed no_else = tt
  else_placed (else_ ss) = statements_placed ss

macros_unplaced : (ms : List Macro) → AreMacrosLike Kept ms (map unplaced_macro ms)
macros_unplaced [] = tt
macros_unplaced (m ∷ ms) = (record { name = refl; params = refl; ins = refl; outs = refl; body = statements_unplaced m.body }, macros_unplaced ms)

macros_placed : (ms : List Macro) → AreMacrosLike Kept (map unplaced_macro ms) ms
macros_placed [] = tt
macros_placed (m ∷ ms) = (record { name = refl; params = refl; ins = refl; outs = refl; body = statements_placed m.body }, macros_placed ms)

-- A drawing is like the one that has none of its places, and the other way round.
pub is_unplaced : (d : Drawing) → IsDrawingLike Kept d (unplaced d)
is_unplaced d = record {
  versions = refl;
  header = refl;
  consts = refl;
  places = length-map d.const_places (λ place. nowhere);
  macros = macros_unplaced d.macros;
  body = statements_unplaced d.body;
}

pub is_placed : (d : Drawing) → IsDrawingLike Kept (unplaced d) d
is_placed d = record {
  versions = refl;
  header = refl;
  consts = refl;
  places = sym (length-map d.const_places (λ place. nowhere));
  macros = macros_placed d.macros;
  body = statements_placed d.body;
}

-- ---- a drawing and itself

mutual
  statement_alike : (s : Statement) → IsLike Kept s s
  statement_alike (Use u) = record { label = refl; kind = refl; delay = refl; fall = refl; params = refl; ins = refl; outs = refl }
  statement_alike (Wire w) = record { name = refl; range = refl; min = refl; max = refl }
  statement_alike (If test ss other place) = (refl, statements_alike ss, else_alike other)
  statement_alike (For var first last ss place) = (refl, refl, refl, statements_alike ss)

  pub statements_alike : (ss : Statements) → AreLike Kept ss ss
  statements_alike nil = tt
  statements_alike (cons s ss) = (statement_alike s, statements_alike ss)

  else_alike : (o : Otherwise) → IsElseLike Kept o o
  else_alike no_else = tt
  else_alike (else_ ss) = statements_alike ss

pub macros_alike : (ms : List Macro) → AreMacrosLike Kept ms ms
macros_alike [] = tt
macros_alike (m ∷ ms) = (record { name = refl; params = refl; ins = refl; outs = refl; body = statements_alike m.body }, macros_alike ms)

-- ---- a drawing and the one with its selects in the other order

mutual
  statement_turned : (s : Statement) → IsLike Turned s (turned_statement s)
  statement_turned (Use u) = record { label = refl; kind = refl; delay = refl; fall = refl; params = refl; ins = refl; outs = refl }
  statement_turned (Wire w) = record { name = refl; range = refl; min = refl; max = refl }
  statement_turned (If test ss other place) = (refl, statements_turned ss, else_turned other)
  statement_turned (For var first last ss place) = (refl, refl, refl, statements_turned ss)

  pub statements_turned : (ss : Statements) → AreLike Turned ss (turned_statements ss)
  statements_turned nil = tt
  statements_turned (cons s ss) = (statement_turned s, statements_turned ss)

  else_turned : (o : Otherwise) → IsElseLike Turned o (turned_otherwise o)
  else_turned no_else = tt
  else_turned (else_ ss) = statements_turned ss

pub macros_turned : (ms : List Macro) → AreMacrosLike Turned ms (map turned_macro ms)
macros_turned [] = tt
macros_turned (m ∷ ms) = (record { name = refl; params = refl; ins = refl; outs = refl; body = statements_turned m.body }, macros_turned ms)
