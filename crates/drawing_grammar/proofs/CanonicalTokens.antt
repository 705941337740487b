-- The tokens of a canonical text, part by part and without their places: each part as its text is made.
use Rattle.std.specs.Prelude.{ℕ, Bool, if◌then◌else◌, List, [], ◌∷◌, ◌++◌, codes, Option, Some, None}
use Rattle.std.specs.Fmt.{signed_decimal}
use Rattle.std.specs.List.{join_by, flat_map}
use Rattle.scald_base.specs.Time.{Header}
use Rattle.scald_lex.specs.declared.token.TokenKind.TheVariants.{Number, Arrow, Symbol, End}
use Rattle.drawing_tree.specs.declared.expr.Op.{Op}
use Rattle.drawing_tree.specs.declared.expr.Op.TheVariants.{Add, Sub, Mul, Div, Eq, Ne, Lt, Le, Gt, Ge}
use Rattle.drawing_tree.specs.Expression.{Expression, Param, Negate, Binary}
use Rattle.drawing_tree.specs.Expression as e
use Rattle.assertion_syntax.specs.declared.name.SignalName.{SignalName}
use Rattle.assertion_syntax.specs.Name.{name_text}
use Rattle.drawing_tree.specs.declared.drawing.CaseEntry.{CaseEntry}
use Rattle.drawing_tree.specs.declared.drawing.CaseStmt.{CaseStmt}
use Rattle.drawing_tree.specs.Tree.{Range, Item, Zero, One, Named, Term, Connection, Assignment, UseStatement, WireStatement, Statement, Use, Wire, If, For, Statements, nil, cons, Otherwise, no_else, else_, Formal, Macro, Drawing}
use Rattle.drawing_tree.specs.ExpressionText.{left_enclosed, right_enclosed, minus_enclosed, is_comparison}
use Rattle.drawing_grammar.proofs.Cutting.{Bare}
use Rattle.drawing_grammar.proofs.Leaves as leaf

-- ---- single tokens

abbrev pub word : List ℕ → List Bare
word text = leaf.word text ∷ []

abbrev pub number : ℕ → List Bare
number n = leaf.number n ∷ []

abbrev pub name : List ℕ → List Bare
name text = leaf.name text ∷ []

abbrev pub symbol : ℕ → List Bare
symbol byte = (record { kind = Symbol byte; text = byte ∷ [] }) ∷ []

abbrev pub semicolon : List Bare
semicolon = symbol 59

abbrev pub colon : List Bare
colon = symbol 58

abbrev pub comma : List Bare
comma = symbol 44

abbrev pub equals : List Bare
equals = symbol 61

abbrev pub minus : List Bare
minus = symbol 45

abbrev pub ampersand : List Bare
ampersand = symbol 38

abbrev pub exclamation : List Bare
exclamation = symbol 33

abbrev pub less : List Bare
less = symbol 60

abbrev pub greater : List Bare
greater = symbol 62

abbrev pub open_parenthesis : List Bare
open_parenthesis = symbol 40

abbrev pub close_parenthesis : List Bare
close_parenthesis = symbol 41

abbrev pub open_bracket : List Bare
open_bracket = symbol 91

abbrev pub close_bracket : List Bare
close_bracket = symbol 93

abbrev pub open_brace : List Bare
open_brace = symbol 123

abbrev pub close_brace : List Bare
close_brace = symbol 125

abbrev pub arrow : List Bare
arrow = (record { kind = Arrow; text = codes "->" }) ∷ []

-- after the last byte
abbrev pub end_of_text : List Bare
end_of_text = (record { kind = End; text = [] }) ∷ []

-- ---- expressions

abbrev pub enclosed_tokens : Bool → List Bare → List Bare
enclosed_tokens asked ts = if asked then open_parenthesis ++ ts ++ close_parenthesis else ts

abbrev pub op_tokens : Op → List Bare
op_tokens Add = symbol 43
op_tokens Sub = minus
op_tokens Mul = symbol 42
op_tokens Div = symbol 47
op_tokens Eq = equals
op_tokens Ne = exclamation ++ equals
op_tokens Lt = less
op_tokens Le = less ++ equals
op_tokens Gt = greater
op_tokens Ge = greater ++ equals

unfoldable pub condition_tokens : Expression → List Bare
condition_tokens (e.Number n) = (record { kind = Number n; text = signed_decimal n }) ∷ []
condition_tokens (Param name) = word name
condition_tokens (Negate operand) = minus ++ enclosed_tokens (minus_enclosed operand) (condition_tokens operand)
condition_tokens (Binary op left right) =
    enclosed_tokens (left_enclosed op left) (condition_tokens left)
    ++ op_tokens op ++ enclosed_tokens (right_enclosed op right) (condition_tokens right)

abbrev pub sum_tokens : Expression → List Bare
sum_tokens e = enclosed_tokens (is_comparison e) (condition_tokens e)

abbrev pub bounds_tokens : Expression → Expression → List Bare
bounds_tokens min max = sum_tokens min ++ colon ++ sum_tokens max

-- ---- connections

abbrev pub last_tokens : Option Expression → List Bare
last_tokens None = []
last_tokens (Some last) = colon ++ sum_tokens last

abbrev pub range_tokens : Option Range → List Bare
range_tokens None = []
range_tokens (Some range) = less ++ sum_tokens range.first ++ last_tokens range.last ++ greater

abbrev pub signal_tokens : SignalName → Option Range → List Bare
signal_tokens n range = name (name_text n) ++ range_tokens range

abbrev pub item_tokens : Item → List Bare
item_tokens Zero = word (codes "ZERO")
item_tokens One = word (codes "ONE")
item_tokens (Named n range) = signal_tokens n range

abbrev pub minus_tokens : Bool → List Bare
minus_tokens complemented = if complemented then minus else []

abbrev pub term_tokens : Term → List Bare
term_tokens t = minus_tokens t.minus ++ item_tokens t.item

abbrev pub hold_tokens : Bool → List Bare
hold_tokens hold = if hold then exclamation ++ word (codes "H") else []

abbrev pub connection_tokens : Connection → List Bare
connection_tokens c = join_by term_tokens ampersand c.terms ++ hold_tokens c.hold

-- ---- what stands in a use and in the head of a macro

abbrev pub listed_tokens : {A : Type 0} → (A → List Bare) → List A → List Bare
listed_tokens tokens items = join_by tokens comma items

abbrev pub bracketed_tokens : {A : Type 0} → List Bare → List Bare → (A → List Bare) → List A → List Bare
bracketed_tokens before behind tokens items = before ++ listed_tokens tokens items ++ behind

abbrev pub bracketed_tokens_if_some : {A : Type 0} → List Bare → List Bare → (A → List Bare) → List A → List Bare
bracketed_tokens_if_some before behind tokens [] = []
bracketed_tokens_if_some before behind tokens (item ∷ items) = bracketed_tokens before behind tokens (item ∷ items)

abbrev pub inputs_tokens : {A : Type 0} → (A → List Bare) → List A → List Bare
inputs_tokens tokens ins = bracketed_tokens open_parenthesis close_parenthesis tokens ins

abbrev pub outputs_tokens : {A : Type 0} → (A → List Bare) → List A → List Bare
outputs_tokens tokens outs = bracketed_tokens_if_some (arrow ++ open_parenthesis) close_parenthesis tokens outs

abbrev pub assignment_tokens : Assignment → List Bare
assignment_tokens a = word a.name ++ equals ++ sum_tokens a.value

abbrev pub params_tokens : List Assignment → List Bare
params_tokens params = bracketed_tokens_if_some open_brace close_brace assignment_tokens params

abbrev pub fall_tokens : Option (Expression × Expression) → List Bare
fall_tokens None = []
fall_tokens (Some fall) = comma ++ bounds_tokens fall.0 fall.1

abbrev pub delay_tokens : Option (Expression × Expression) → Option (Expression × Expression) → List Bare
delay_tokens None fall = []
delay_tokens (Some delay) fall = open_bracket ++ bounds_tokens delay.0 delay.1 ++ fall_tokens fall ++ close_bracket

-- ---- statements

abbrev pub use_tokens : UseStatement → List Bare
use_tokens u =
    word u.label ++ colon ++ word u.kind ++ delay_tokens u.delay u.fall ++ params_tokens u.params
    ++ inputs_tokens connection_tokens u.ins ++ outputs_tokens connection_tokens u.outs ++ semicolon

abbrev pub wire_tokens : WireStatement → List Bare
wire_tokens w = word (codes "WIRE") ++ signal_tokens w.name w.range ++ bounds_tokens w.min w.max ++ semicolon

abbrev pub end_tokens : List Bare
end_tokens = word (codes "END") ++ semicolon

-- the first line of a FOR
abbrev pub for_tokens : List ℕ → Expression → Expression → List Bare
for_tokens var first last =
    word (codes "FOR") ++ word var ++ equals ++ sum_tokens first ++ word (codes "TO") ++ sum_tokens last ++ word (codes "DO")

unfoldable mutual
  pub statement_tokens : Statement → List Bare
  statement_tokens (Use u) = use_tokens u
  statement_tokens (Wire w) = wire_tokens w
  statement_tokens (If test behind_then behind_else place) =
      (word (codes "IF") ++ condition_tokens test ++ word (codes "THEN")) ++ statements_tokens behind_then
      ++ else_tokens behind_else ++ end_tokens
  statement_tokens (For var first last body place) = for_tokens var first last ++ statements_tokens body ++ end_tokens

  pub statements_tokens : Statements → List Bare
  statements_tokens nil = []
  statements_tokens (cons s ss) = statement_tokens s ++ statements_tokens ss

  pub else_tokens : Otherwise → List Bare
  else_tokens no_else = []
  else_tokens (else_ ss) = word (codes "ELSE") ++ statements_tokens ss

abbrev pub body_tokens : Statements → List Bare
body_tokens body = statements_tokens body ++ end_tokens

-- ---- the whole drawing

-- two numbers, with a colon between them
abbrev pub pair_tokens : ℕ → ℕ → List Bare
pair_tokens a b = number a ++ colon ++ number b

abbrev pub header_tokens : ℕ → Header → List Bare
header_tokens version h =
    (word (codes "SCALD") ++ number version ++ semicolon)
    ++ (word (codes "CLOCK") ++ number h.units ++ word (codes "x") ++ number h.ticks ++ semicolon)
    ++ (word (codes "WIRE") ++ pair_tokens h.wire.min h.wire.max ++ semicolon)
    ++ (word (codes "PSKEW") ++ pair_tokens h.pskew.0 h.pskew.1 ++ semicolon)
    ++ (word (codes "CSKEW") ++ pair_tokens h.cskew.0 h.cskew.1 ++ semicolon)

abbrev pub constant_tokens : Assignment → List Bare
constant_tokens c = word (codes "CONST") ++ word c.name ++ equals ++ sum_tokens c.value ++ semicolon

abbrev pub formal_tokens : Formal → List Bare
formal_tokens f = name f.base ++ range_tokens f.range

abbrev pub macro_tokens : Macro → List Bare
macro_tokens m =
    (word (codes "MACRO") ++ word m.name ++ params_tokens m.params ++ inputs_tokens formal_tokens m.ins ++ outputs_tokens formal_tokens m.outs ++ semicolon)
    ++ body_tokens m.body

abbrev pub entry_tokens : CaseEntry → List Bare
entry_tokens e = name (name_text e.name) ++ less ++ number e.bit ++ (greater ++ equals) ++ number e.value

abbrev pub case_tokens : CaseStmt → List Bare
case_tokens c = word (codes "CASE") ++ listed_tokens entry_tokens c.entries ++ semicolon

abbrev pub drawing_tokens : Drawing → List Bare
drawing_tokens d =
    header_tokens d.version d.header
    ++ flat_map constant_tokens d.consts
    ++ flat_map macro_tokens d.macros
    ++ (word (codes "DRAWING") ++ word d.name ++ semicolon)
    ++ body_tokens d.body
    ++ flat_map case_tokens d.cases
