-- What holds of each place that stands in a drawing.
use Rattle.std.specs.Prelude.{⊤}
use Rattle.std.specs.List.{AllByRecursion}
use Rattle.scald_base.specs.declared.refusal.Place.{Place}
use Rattle.drawing_tree.specs.declared.drawing.CaseEntry.{CaseEntry}
use Rattle.drawing_tree.specs.declared.drawing.CaseStmt.{CaseStmt}
use Rattle.drawing_tree.specs.Tree.{Connection, UseStatement, Statement, Use, Wire, If, For, Statements, nil, cons, Otherwise, no_else, else_, Macro, Drawing}

abbrev pub IsConnectionAt : (Place → Type 0) → Connection → Type 0
IsConnectionAt P c = P c.place

pub record IsUseAt (P : Place → Type 0) (u : UseStatement) : Type 0 where
  pub place : P u.place
  pub ins : AllByRecursion (IsConnectionAt P) u.ins
  pub outs : AllByRecursion (IsConnectionAt P) u.outs

abbrev mutual
  pub IsStatementAt : (Place → Type 0) → Statement → Type 0
  IsStatementAt P (Use u) = IsUseAt P u
  IsStatementAt P (Wire w) = P w.place
  IsStatementAt P (If test ss other place) = P place × AreStatementsAt P ss × IsOtherwiseAt P other
  IsStatementAt P (For var first last ss place) = P place × AreStatementsAt P ss

  pub AreStatementsAt : (Place → Type 0) → Statements → Type 0
  AreStatementsAt P nil = ⊤
  AreStatementsAt P (cons s ss) = IsStatementAt P s × AreStatementsAt P ss

  pub IsOtherwiseAt : (Place → Type 0) → Otherwise → Type 0
  IsOtherwiseAt P no_else = ⊤
  IsOtherwiseAt P (else_ ss) = AreStatementsAt P ss

pub record IsMacroAt (P : Place → Type 0) (m : Macro) : Type 0 where
  pub place : P m.place
  pub body : AreStatementsAt P m.body

abbrev pub IsEntryAt : (Place → Type 0) → CaseEntry → Type 0
IsEntryAt P e = P e.place

pub record IsCaseAt (P : Place → Type 0) (c : CaseStmt) : Type 0 where
  pub place : P c.place
  pub entries : AllByRecursion (IsEntryAt P) c.entries

-- It holds of the place of each constant, each statement and connection, each macro, each case and
-- each of its entries.
pub record EachPlace (P : Place → Type 0) (d : Drawing) : Type 0 where
  pub consts : AllByRecursion P d.const_places
  pub macros : AllByRecursion (IsMacroAt P) d.macros
  pub body : AreStatementsAt P d.body
  pub cases : AllByRecursion (IsCaseAt P) d.cases
