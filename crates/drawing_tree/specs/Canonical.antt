-- The canonical text of a drawing: one statement a line, each line ended by byte 10. Every tree has
-- one, also one that no text draws: a fall delay without a delay counts as absent, and a negative
-- number is written with its minus. So contracts over trees need no premise. That the text draws
-- its tree again has one condition, on the text's own nesting, since a minus under a minus is
-- written with a parenthesis.
use Rattle.std.specs.Prelude.{ℕ, Bool, List, [], ◌∷◌, ◌++◌, codes, decimal, Option, Some, None, if◌then◌else◌}
use Rattle.std.specs.List.{join_by, flat_map}
use Rattle.scald_base.specs.Time.{Header}
use Rattle.drawing_tree.specs.Expression.{Expression}
use Rattle.assertion_syntax.specs.declared.name.SignalName.{SignalName}
use Rattle.assertion_syntax.specs.Name.{name_text}
use Rattle.drawing_tree.specs.declared.drawing.CaseEntry.{CaseEntry}
use Rattle.drawing_tree.specs.declared.drawing.CaseStmt.{CaseStmt}
use Rattle.drawing_tree.specs.Tree.{Range, Item, Zero, One, Named, Term, Connection, Assignment, UseStatement, WireStatement, Statement, Use, Wire, If, For, Statements, nil, cons, Otherwise, no_else, else_, Formal, Macro, Drawing}
use Rattle.drawing_tree.specs.ExpressionText.{condition_text, sum_text}

-- texts of items with a comma and a space between them
abbrev pub listed_text : {A : Type 0} → (A → List ℕ) → List A → List ℕ
listed_text text items = join_by text (codes ", ") items

abbrev pub quoted : List ℕ → List ℕ
quoted text = codes "\"" ++ text ++ codes "\""

-- the least and the greatest of something
abbrev pub bounds_text : Expression → Expression → List ℕ
bounds_text min max = sum_text min ++ codes ":" ++ sum_text max

-- ---- connections

abbrev pub last_text : Option Expression → List ℕ
last_text None = []
last_text (Some last) = codes ":" ++ sum_text last

abbrev pub range_text : Option Range → List ℕ
range_text None = []
range_text (Some range) = codes "<" ++ sum_text range.first ++ last_text range.last ++ codes ">"

abbrev pub signal_text : SignalName → Option Range → List ℕ
signal_text name range = quoted (name_text name) ++ range_text range

abbrev pub item_text : Item → List ℕ
item_text Zero = codes "ZERO"
item_text One = codes "ONE"
item_text (Named name range) = signal_text name range

abbrev pub minus_text : Bool → List ℕ
minus_text minus = if minus then codes "-" else []

abbrev pub term_text : Term → List ℕ
term_text t = minus_text t.minus ++ item_text t.item

abbrev pub hold_text : Bool → List ℕ
hold_text hold = if hold then codes " !H" else []

abbrev pub connection_text : Connection → List ℕ
connection_text c = join_by term_text (codes " & ") c.terms ++ hold_text c.hold

-- ---- what stands in a use and in the head of a macro

-- items between brackets
unfoldable pub bracketed : {A : Type 0} → List ℕ → List ℕ → (A → List ℕ) → List A → List ℕ
bracketed before behind text items = before ++ listed_text text items ++ behind

-- the same if there are some, else nothing
unfoldable pub bracketed_if_some : {A : Type 0} → List ℕ → List ℕ → (A → List ℕ) → List A → List ℕ
bracketed_if_some before behind text [] = []
bracketed_if_some before behind text (item ∷ items) = bracketed before behind text (item ∷ items)

-- in parentheses, also if there are none
abbrev pub inputs_text : {A : Type 0} → (A → List ℕ) → List A → List ℕ
inputs_text text ins = bracketed (codes " (") (codes ")") text ins

-- after an arrow
abbrev pub outputs_text : {A : Type 0} → (A → List ℕ) → List A → List ℕ
outputs_text text outs = bracketed_if_some (codes " -> (") (codes ")") text outs

abbrev pub assignment_text : Assignment → List ℕ
assignment_text a = a.name ++ codes "=" ++ sum_text a.value

-- in braces
abbrev pub params_text : List Assignment → List ℕ
params_text params = bracketed_if_some (codes " {") (codes "}") assignment_text params

abbrev pub fall_text : Option (Expression × Expression) → List ℕ
fall_text None = []
fall_text (Some fall) = codes ", " ++ bounds_text fall.0 fall.1

-- in brackets, a fall delay after the delay; without a delay it counts as not there
abbrev pub delay_text : Option (Expression × Expression) → Option (Expression × Expression) → List ℕ
delay_text None fall = []
delay_text (Some delay) fall =
    codes " [" ++ bounds_text delay.0 delay.1 ++ fall_text fall ++ codes "]"

-- ---- statements

-- what stands before the connections
unfoldable pub use_head : UseStatement → List ℕ
use_head u = u.label ++ codes " : " ++ u.kind ++ delay_text u.delay u.fall ++ params_text u.params

unfoldable pub use_text : UseStatement → List ℕ
use_text u =
    use_head u ++ inputs_text connection_text u.ins ++ outputs_text connection_text u.outs
    ++ codes ";"

unfoldable pub wire_text : WireStatement → List ℕ
wire_text w =
    codes "WIRE " ++ signal_text w.name w.range ++ codes " " ++ bounds_text w.min w.max ++ codes ";"

-- a line after its margin
abbrev pub line : List ℕ → List ℕ → List ℕ
line margin text = margin ++ text ++ 10 ∷ []

-- the first line of a FOR
abbrev pub for_text : List ℕ → Expression → Expression → List ℕ
for_text var first last =
    codes "FOR " ++ var ++ codes " = " ++ sum_text first
    ++ codes " TO " ++ sum_text last ++ codes " DO"

-- the margin of what an IF or a FOR holds
abbrev pub deeper : List ℕ → List ℕ
deeper margin = margin ++ codes "  "

unfoldable mutual
  pub statement_lines : List ℕ → Statement → List ℕ
  statement_lines margin (Use u) = line margin (use_text u)
  statement_lines margin (Wire w) = line margin (wire_text w)
  statement_lines margin (If test behind_then behind_else place) =
      line margin (codes "IF " ++ condition_text test ++ codes " THEN")
      ++ statements_lines (deeper margin) behind_then ++ else_lines margin behind_else
      ++ line margin (codes "END;")
  statement_lines margin (For var first last body place) =
      line margin (for_text var first last)
      ++ statements_lines (deeper margin) body ++ line margin (codes "END;")

  pub statements_lines : List ℕ → Statements → List ℕ
  statements_lines margin nil = []
  statements_lines margin (cons s ss) = statement_lines margin s ++ statements_lines margin ss

  pub else_lines : List ℕ → Otherwise → List ℕ
  else_lines margin no_else = []
  else_lines margin (else_ ss) = line margin (codes "ELSE") ++ statements_lines (deeper margin) ss

-- the statements of a macro or of the drawing itself, and the END after them
unfoldable pub body_lines : Statements → List ℕ
body_lines body = statements_lines (codes "  ") body ++ line [] (codes "END;")

-- ---- the whole drawing

abbrev pub pair_text : ℕ → ℕ → List ℕ
pair_text a b = decimal a ++ codes ":" ++ decimal b

unfoldable pub header_lines : ℕ → Header → List ℕ
header_lines version h =
    line [] (codes "SCALD " ++ decimal version ++ codes ";")
    ++ line [] (codes "CLOCK " ++ decimal h.units ++ codes " x " ++ decimal h.ticks ++ codes ";")
    ++ line [] (codes "WIRE " ++ pair_text h.wire.min h.wire.max ++ codes ";")
    ++ line [] (codes "PSKEW " ++ pair_text h.pskew.0 h.pskew.1 ++ codes ";")
    ++ line [] (codes "CSKEW " ++ pair_text h.cskew.0 h.cskew.1 ++ codes ";")

unfoldable pub constant_line : Assignment → List ℕ
constant_line c = line [] (codes "CONST " ++ c.name ++ codes " = " ++ sum_text c.value ++ codes ";")

abbrev pub formal_text : Formal → List ℕ
formal_text f = quoted f.base ++ range_text f.range

-- the first line of a macro
unfoldable pub macro_head : Macro → List ℕ
macro_head m =
    codes "MACRO " ++ m.name ++ params_text m.params ++ inputs_text formal_text m.ins
    ++ outputs_text formal_text m.outs ++ codes ";"

unfoldable pub macro_lines : Macro → List ℕ
macro_lines m = line [] (macro_head m) ++ body_lines m.body

abbrev pub entry_text : CaseEntry → List ℕ
entry_text e =
    quoted (name_text e.name) ++ codes "<" ++ decimal e.bit ++ codes ">=" ++ decimal e.value

abbrev pub case_lines : CaseStmt → List ℕ
case_lines c = line [] (codes "CASE " ++ listed_text entry_text c.entries ++ codes ";")

abbrev pub canonical : Drawing → List ℕ
canonical d =
    header_lines d.version d.header
    ++ flat_map constant_line d.consts
    ++ flat_map macro_lines d.macros
    ++ line [] (codes "DRAWING " ++ d.name ++ codes ";")
    ++ body_lines d.body
    ++ flat_map case_lines d.cases
