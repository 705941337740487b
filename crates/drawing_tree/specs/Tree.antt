-- A drawing as a tree of what it holds, without where its parts lie in memory.
use Rattle.std.specs.Prelude.{ℕ, Bool, List, [], ◌∷◌, map, Option, Some, None, option_map, IfSome, ⊤}
use Rattle.std.specs.Global.{Vec, Box}
use Rattle.scald_base.specs.Time.{Header}
use Rattle.scald_base.specs.declared.refusal.Place.{Place}
use Rattle.drawing_tree.specs.Expression.{Expression, expression_of}
use Rattle.drawing_tree.specs.declared.expr.Expr.{Expr}
use Rattle.assertion_syntax.specs.declared.name.SignalName.{SignalName}
use Rattle.drawing_tree.specs.declared.connection.RangeExpr.{RangeExpr}
use Rattle.drawing_tree.specs.declared.connection.Item as written
use Rattle.drawing_tree.specs.declared.connection.Item.TheVariants as item
use Rattle.drawing_tree.specs.declared.connection.Term as written_term
use Rattle.drawing_tree.specs.declared.connection.Conn.{Conn}
use Rattle.drawing_tree.specs.declared.statement.Assign.{Assign}
use Rattle.drawing_tree.specs.declared.statement.UseStmt.{UseStmt}
use Rattle.drawing_tree.specs.declared.statement.WireStmt.{WireStmt}
use Rattle.drawing_tree.specs.declared.statement.Stmt.{Stmt, Stmt-F, fold-Stmt}
use Rattle.drawing_tree.specs.declared.statement.Stmt.TheOpen as layer
use Rattle.drawing_tree.specs.declared.statement.Stmt.TheOpen.{IfStmt-F, ForStmt-F}
use Rattle.drawing_tree.specs.declared.statement.IfStmt.{IfStmt, fold-IfStmt}
use Rattle.drawing_tree.specs.declared.statement.ForStmt.{ForStmt, fold-ForStmt}
use Rattle.drawing_tree.specs.declared.drawing.Formal as written_formal
use Rattle.drawing_tree.specs.declared.drawing.MacroDef.{MacroDef}
use Rattle.drawing_tree.specs.declared.drawing.CaseStmt.{CaseStmt}
use Rattle.drawing_tree.specs.declared.drawing.Drawing as written_drawing

-- ---- connections

-- bits of a net: from the first to the last, or the first alone
pub record Range : Type 0 where
  pub first : Expression
  pub last : Option Expression

pub data Item : Type 0 where
  Zero : Item
  One : Item
  Named : SignalName → Option Range → Item

-- complemented if a minus stands before it
pub record Term : Type 0 where
  pub minus : Bool
  pub item : Item

-- bits that follow one another; hold if the hazard mark follows them
pub record Connection : Type 0 where
  pub terms : List Term
  pub hold : Bool
  pub place : Place

-- ---- statements

pub record Assignment : Type 0 where
  pub name : List ℕ
  pub value : Expression

-- If two delays are written, the first is that of rises. Without it a fall delay counts as not
-- there.
pub record UseStatement : Type 0 where
  pub label : List ℕ
  pub kind : List ℕ
  pub delay : Option (Expression × Expression)
  pub fall : Option (Expression × Expression)
  pub params : List Assignment
  pub ins : List Connection
  pub outs : List Connection
  pub place : Place

-- It holds of each bound of the delays of a use. A fall delay without a delay counts as not there.
abbrev pub EachDelay : (Expression → Type 0) → Option (Expression × Expression) →
    Option (Expression × Expression) → Type 0
EachDelay P None fall = ⊤
EachDelay P (Some delay) fall = (P delay.0 × P delay.1) × IfSome fall (λ f. P f.0 × P f.1)

pub record WireStatement : Type 0 where
  pub name : SignalName
  pub range : Option Range
  pub min : Expression
  pub max : Expression
  pub place : Place

-- An IF has its test, the statements after THEN, those after ELSE if ELSE is written, and its
-- place. A FOR has its variable, the first and the last value, its statements, and its place.
mutual
  pub data Statement : Type 0 where
    Use : UseStatement → Statement
    Wire : WireStatement → Statement
    If : Expression → Statements → Otherwise → Place → Statement
    For : List ℕ → Expression → Expression → Statements → Place → Statement

  pub data Statements : Type 0 where
    nil : Statements
    cons : Statement → Statements → Statements

  pub data Otherwise : Type 0 where
    no_else : Otherwise
    else_ : Statements → Otherwise

-- ---- drawings

pub record Formal : Type 0 where
  pub base : List ℕ
  pub range : Option Range

pub record Macro : Type 0 where
  pub name : List ℕ
  pub params : List Assignment
  pub ins : List Formal
  pub outs : List Formal
  pub body : Statements
  pub place : Place

pub record Drawing : Type 0 where
  pub version : ℕ
  pub header : Header
  pub consts : List Assignment
  pub const_places : List Place
  pub macros : List Macro
  pub name : List ℕ
  pub body : Statements
  pub cases : List CaseStmt

-- ---- what the values of the program hold

abbrev pub range_of : RangeExpr → Range
range_of r = record { first = expression_of r.first; last = option_map expression_of r.last }

-- a range, if one is written
abbrev pub written_range_of : Option (Box RangeExpr) → Option Range
written_range_of range = option_map (λ (b : Box RangeExpr). range_of b.value) range

abbrev pub item_of : written.Item → Item
item_of item.Zero = Zero
item_of item.One = One
item_of (item.Named name range) = Named name (written_range_of range)

abbrev pub term_of : written_term.Term → Term
term_of t = record { minus = t.minus; item = item_of t.item }

abbrev pub connection_of : Conn → Connection
connection_of c = record { terms = map term_of c.terms; hold = c.hold; place = c.place }

abbrev pub assignment_of : Assign → Assignment
assignment_of a = record { name = a.name; value = expression_of a.value }

abbrev pub both_of : Expr × Expr → Expression × Expression
both_of pair = (expression_of pair.0, expression_of pair.1)

-- the delay of falls, if one is written
abbrev pub written_fall_of : Option (Box (Expr × Expr)) → Option (Expression × Expression)
written_fall_of fall = option_map (λ (b : Box (Expr × Expr)). both_of b.value) fall

abbrev pub use_of : UseStmt → UseStatement
use_of u = record {
  label = u.label;
  kind = u.kind;
  delay = option_map both_of u.delay;
  fall = written_fall_of u.fall;
  params = map assignment_of u.params;
  ins = map connection_of u.ins;
  outs = map connection_of u.outs;
  place = u.place;
}

abbrev pub wire_of : WireStmt → WireStatement
wire_of w = record {
  name = w.name;
  range = written_range_of w.range;
  min = expression_of w.min;
  max = expression_of w.max;
  place = w.place;
}

abbrev pub listed : List Statement → Statements
listed [] = nil
listed (s ∷ ss) = cons s (listed ss)

abbrev pub otherwise_of : Option (Vec Statement) → Otherwise
otherwise_of None = no_else
otherwise_of (Some v) = else_ (listed v.items)

-- one layer of a statement, with the tree of each inner statement in its place
abbrev pub statement_layer : Stmt-F Statement Statement Statement → Statement
statement_layer (layer.Use u) = Use (use_of u)
statement_layer (layer.Wire w) = Wire (wire_of w)
statement_layer (layer.If s) = s
statement_layer (layer.For s) = s

abbrev pub if_layer : IfStmt-F Statement Statement Statement → Statement
if_layer s = If (expression_of s.test) (listed s.yes.items) (otherwise_of s.no) s.place

abbrev pub for_layer : ForStmt-F Statement Statement Statement → Statement
for_layer s = For s.var (expression_of s.first) (expression_of s.last) (listed s.body.items) s.place

abbrev pub statement_of : Stmt → Statement
statement_of = fold-Stmt Statement Statement Statement statement_layer for_layer if_layer

abbrev pub if_of : IfStmt → Statement
if_of = fold-IfStmt Statement Statement Statement statement_layer for_layer if_layer

abbrev pub for_of : ForStmt → Statement
for_of = fold-ForStmt Statement Statement Statement statement_layer for_layer if_layer

abbrev pub statements_of : List Stmt → Statements
statements_of ss = listed (map statement_of ss)

-- what stands after ELSE, if ELSE is written
abbrev pub else_of : Option (Vec Stmt) → Otherwise
else_of None = no_else
else_of (Some v) = else_ (statements_of v.items)

abbrev pub formal_of : written_formal.Formal → Formal
formal_of f = record { base = f.base; range = written_range_of f.range }

abbrev pub macro_of : MacroDef → Macro
macro_of m = record {
  name = m.name;
  params = map assignment_of m.params;
  ins = map formal_of m.ins;
  outs = map formal_of m.outs;
  body = statements_of m.body.items;
  place = m.place;
}

abbrev pub drawing_of : written_drawing.Drawing → Drawing
drawing_of d = record {
  version = d.version;
  header = d.header;
  consts = map assignment_of d.consts;
  const_places = d.const_places;
  macros = map macro_of d.macros;
  name = d.name;
  body = statements_of d.body.items;
  cases = d.cases;
}
