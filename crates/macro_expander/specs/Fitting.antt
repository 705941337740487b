-- Drawings whose names assert what their header allows.
use Rattle.std.specs.Prelude.{⊤}
use Rattle.std.specs.List.{All}
use Rattle.scald_base.specs.Time.{Header}
use Rattle.scald_base.specs.Fitting.{Fits}
use Rattle.drawing_tree.specs.Tree.{Item, Zero, One, Named, Term, Connection, UseStatement, Statement, Use, Wire, If, For, Statements, nil, cons, Otherwise, no_else, else_, Macro, Drawing}

abbrev pub ItemFits : Header → Item → Type 0
ItemFits h Zero = ⊤
ItemFits h One = ⊤
ItemFits h (Named name range) = Fits h name.spec

pub record TermFits (h : Header) (t : Term) : Type 0 where
  pub item : ItemFits h t.item

pub record ConnectionFits (h : Header) (c : Connection) : Type 0 where
  pub terms : All (TermFits h) c.terms

pub record UseFits (h : Header) (u : UseStatement) : Type 0 where
  pub ins : All (ConnectionFits h) u.ins
  pub outs : All (ConnectionFits h) u.outs

abbrev mutual
  pub StatementFits : Header → Statement → Type 0
  StatementFits h (Use u) = UseFits h u
  StatementFits h (Wire w) = Fits h w.name.spec
  StatementFits h (If test taken other place) = StatementsFit h taken × OtherwiseFits h other
  StatementFits h (For var first last ss place) = StatementsFit h ss

  pub StatementsFit : Header → Statements → Type 0
  StatementsFit h nil = ⊤
  StatementsFit h (cons s ss) = StatementFits h s × StatementsFit h ss

  pub OtherwiseFits : Header → Otherwise → Type 0
  OtherwiseFits h no_else = ⊤
  OtherwiseFits h (else_ ss) = StatementsFit h ss

abbrev pub MacroFits : Header → Macro → Type 0
MacroFits h m = StatementsFit h m.body

pub record DrawingFits (d : Drawing) : Type 0 where
  pub macros : All (MacroFits d.header) d.macros
  pub body : StatementsFit d.header d.body
