-- Drawings that are alike but for the places of their parts.
use Rattle.std.specs.Prelude.{◌≡◌, map}
use Rattle.scald_base.specs.declared.refusal.Place.{Place}
use Rattle.drawing_tree.specs.declared.drawing.CaseEntry.{CaseEntry}
use Rattle.drawing_tree.specs.declared.drawing.CaseStmt.{CaseStmt}
use Rattle.drawing_tree.specs.Tree.{Connection, UseStatement, WireStatement, Statement, Use, Wire, If, For, Statements, nil, cons, Otherwise, no_else, else_, Macro, Drawing}

-- no place of a text, whose lines and columns count from 1
abbrev pub nowhere : Place
nowhere = record { line = 0; col = 0 }

abbrev pub unplaced_connection : Connection → Connection
unplaced_connection c = record c { place = nowhere }

abbrev pub unplaced_use : UseStatement → UseStatement
unplaced_use u =
    record u {
      ins = map unplaced_connection u.ins;
      outs = map unplaced_connection u.outs;
      place = nowhere;
    }

abbrev pub unplaced_wire : WireStatement → WireStatement
unplaced_wire w = record w { place = nowhere }

abbrev mutual
  pub unplaced_statement : Statement → Statement
  unplaced_statement (Use u) = Use (unplaced_use u)
  unplaced_statement (Wire w) = Wire (unplaced_wire w)
  unplaced_statement (If test ss other place) =
      If test (unplaced_statements ss) (unplaced_otherwise other) nowhere
  unplaced_statement (For var first last ss place) =
      For var first last (unplaced_statements ss) nowhere

  pub unplaced_statements : Statements → Statements
  unplaced_statements nil = nil
  unplaced_statements (cons s ss) = cons (unplaced_statement s) (unplaced_statements ss)

  pub unplaced_otherwise : Otherwise → Otherwise
  unplaced_otherwise no_else = no_else
  unplaced_otherwise (else_ ss) = else_ (unplaced_statements ss)

abbrev pub unplaced_macro : Macro → Macro
unplaced_macro m = record m { body = unplaced_statements m.body; place = nowhere }

abbrev pub unplaced_entry : CaseEntry → CaseEntry
unplaced_entry e = record e { place = nowhere }

abbrev pub unplaced_case : CaseStmt → CaseStmt
unplaced_case c = record { entries = map unplaced_entry c.entries; place = nowhere }

abbrev pub unplaced : Drawing → Drawing
unplaced d = record d {
  const_places = map (λ place. nowhere) d.const_places;
  macros = map unplaced_macro d.macros;
  body = unplaced_statements d.body;
  cases = map unplaced_case d.cases;
}

-- They hold the same, places aside.
abbrev pub SameButPlaces : Drawing → Drawing → Type 0
SameButPlaces d e = unplaced d ≡ unplaced e
