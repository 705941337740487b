-- The drawing of the same circuit in the last version of the language, and its text.
use Rattle.std.specs.Prelude.{ℕ, ◌==◌, List, length, map, Option, Some, if◌then◌else◌}
use Rattle.element_kinds.specs.declared.kind.Kind.{Kind}
use Rattle.element_kinds.specs.declared.kind.Kind.TheVariants.{Mux4, Mux8}
use Rattle.element_kinds.specs.Kinds.{kind_of}
use Rattle.drawing_tree.specs.Tree.{Connection, UseStatement, Statement, Use, Wire, If, For, Statements, nil, cons, Otherwise, no_else, else_, Macro, Drawing}
use Rattle.drawing_tree.specs.Canonical.{canonical}
use Rattle.macro_expander.specs.Primitives.{first_reversed}

-- How many of the first of so many connections are selects that stand in another order in version
-- 2: those of a MUX4 and of a MUX8. A use with another number of connections has none.
abbrev pub turned_selects : Option Kind → ℕ → ℕ
turned_selects (Some Mux4) n = if n == 6 then 2 else 0
turned_selects (Some Mux8) n = if n == 11 then 3 else 0
turned_selects _ n = 0

abbrev pub turned_ins : List ℕ → List Connection → List Connection
turned_ins kind ins = first_reversed (turned_selects (kind_of kind) (length ins)) ins

abbrev pub turned_use : UseStatement → UseStatement
turned_use u = record u { ins = turned_ins u.kind u.ins }

abbrev mutual
  pub turned_statement : Statement → Statement
  turned_statement (Use u) = Use (turned_use u)
  turned_statement (Wire w) = Wire w
  turned_statement (If test taken other place) =
      If test (turned_statements taken) (turned_otherwise other) place
  turned_statement (For var first last body place) =
      For var first last (turned_statements body) place

  pub turned_statements : Statements → Statements
  turned_statements nil = nil
  turned_statements (cons s ss) = cons (turned_statement s) (turned_statements ss)

  pub turned_otherwise : Otherwise → Otherwise
  turned_otherwise no_else = no_else
  turned_otherwise (else_ ss) = else_ (turned_statements ss)

abbrev pub turned_macro : Macro → Macro
turned_macro m = record m { body = turned_statements m.body }

-- each use with its selects in the other order
abbrev pub turned : Drawing → Drawing
turned d = record d { macros = map turned_macro d.macros; body = turned_statements d.body }

-- The drawing in version 2 of the language. Only one of version 1 has its selects in another order.
abbrev pub upgraded : Drawing → Drawing
upgraded d = record (if d.version == 1 then turned d else d) { version = 2 }

abbrev pub upgraded_text : Drawing → List ℕ
upgraded_text d = canonical (upgraded d)
