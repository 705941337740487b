-- What is known of the numbers, words, names and lists of a drawing that some text draws.
use Rattle.std.specs.Prelude.{◌≡◌, ◌≤◌, ◌<◌, ◌^◌, ℤ, pos, negsuc, List, [], ◌∷◌, Option, Some, None, IfSome, ⊤, ◌⊎◌}
use Rattle.std.specs.List.{AllByRecursion}
use Rattle.scald_base.specs.Time.{IsHeader}
use Rattle.scald_lex.specs.Piece.{greatest_number}
use Rattle.drawing_tree.specs.Expression.{Expression, Number, Param, Negate, Binary}
use Rattle.assertion_syntax.specs.Name.{IsName, IsBase}
use Rattle.drawing_tree.specs.declared.drawing.CaseEntry.{CaseEntry}
use Rattle.drawing_tree.specs.declared.drawing.CaseStmt.{CaseStmt}
use Rattle.drawing_tree.specs.Tree.{Range, Item, Zero, One, Named, Term, Connection, Assignment, UseStatement, WireStatement, Statement, Use, Wire, If, For, Statements, nil, cons, Otherwise, no_else, else_, Formal, Macro, Drawing, EachDelay}
use Rattle.drawing_tree.specs.WellFormed.{IsFreeWord}
use Rattle.drawing_grammar.specs.declared.edition.Edition.{Edition}
use Rattle.drawing_grammar.specs.declared.edition.Edition.TheVariants.{First, Second}
use Rattle.drawing_grammar.specs.Edition.{edition_by}

-- a number of a token
abbrev pub IsDrawnNumber : ℤ → Type 0
IsDrawnNumber (pos n) = n ≤ greatest_number
IsDrawnNumber (negsuc n) = ⊥

-- there is one at least
abbrev pub HasOne : {A : Type 0} → List A → Type 0
HasOne [] = ⊥
HasOne (x ∷ xs) = ⊤

abbrev pub IsDrawn : Expression → Type 0
IsDrawn (Number n) = IsDrawnNumber n
IsDrawn (Param name) = IsFreeWord name
IsDrawn (Negate operand) = IsDrawn operand
IsDrawn (Binary op left right) = IsDrawn left × IsDrawn right

pub record IsDrawnRange (range : Range) : Type 0 where
  pub first : IsDrawn range.first
  pub last : IfSome range.last IsDrawn

abbrev pub IsDrawnItem : Item → Type 0
IsDrawnItem Zero = ⊤
IsDrawnItem One = ⊤
IsDrawnItem (Named name range) = IsName name × IfSome range IsDrawnRange

abbrev pub IsDrawnTerm : Term → Type 0
IsDrawnTerm t = IsDrawnItem t.item

pub record IsDrawnConnection (c : Connection) : Type 0 where
  pub some : HasOne c.terms
  pub terms : AllByRecursion IsDrawnTerm c.terms

pub record IsDrawnAssignment (a : Assignment) : Type 0 where
  pub name : IsFreeWord a.name
  pub value : IsDrawn a.value

-- A fall delay stands beside a delay.
abbrev pub IsBeside : Option (Expression × Expression) → Option (Expression × Expression) → Type 0
IsBeside None fall = fall ≡ None
IsBeside (Some delay) fall = ⊤

pub record IsDrawnUse (u : UseStatement) : Type 0 where
  pub label : IsFreeWord u.label
  pub kind : IsFreeWord u.kind
  pub delays : EachDelay IsDrawn u.delay u.fall
  pub beside : IsBeside u.delay u.fall
  pub params : AllByRecursion IsDrawnAssignment u.params
  pub ins : AllByRecursion IsDrawnConnection u.ins
  pub outs : AllByRecursion IsDrawnConnection u.outs

pub record IsDrawnWire (w : WireStatement) : Type 0 where
  pub name : IsName w.name
  pub range : IfSome w.range IsDrawnRange
  pub min : IsDrawn w.min
  pub max : IsDrawn w.max

-- by this version of the language
abbrev mutual
  pub IsDrawnStatement : Edition → Statement → Type 0
  IsDrawnStatement v (Use u) = IsDrawnUse u
  IsDrawnStatement v (Wire w) = IsDrawnWire w
  IsDrawnStatement v (If test behind_then behind_else place) = IsDrawn test × AreDrawn v behind_then × IsDrawnOtherwise v behind_else
  IsDrawnStatement v (For var first last body place) =
      (v ≡ Second) × IsFreeWord var × IsDrawn first × IsDrawn last × AreDrawn v body

  pub AreDrawn : Edition → Statements → Type 0
  AreDrawn v nil = ⊤
  AreDrawn v (cons s ss) = IsDrawnStatement v s × AreDrawn v ss

  pub IsDrawnOtherwise : Edition → Otherwise → Type 0
  IsDrawnOtherwise v no_else = ⊤
  IsDrawnOtherwise v (else_ ss) = AreDrawn v ss

pub record IsDrawnFormal (f : Formal) : Type 0 where
  pub base : IsBase f.base
  pub range : IfSome f.range IsDrawnRange

pub record IsDrawnMacro (v : Edition) (m : Macro) : Type 0 where
  pub name : IsFreeWord m.name
  pub params : AllByRecursion IsDrawnAssignment m.params
  pub ins : AllByRecursion IsDrawnFormal m.ins
  pub outs : AllByRecursion IsDrawnFormal m.outs
  pub body : AreDrawn v m.body

-- Greater numbers are drawn as the greatest of 32 bits.
pub record IsDrawnEntry (e : CaseEntry) : Type 0 where
  pub name : IsName e.name
  pub bit : e.bit < 2 ^ 32
  pub value : e.value < 2 ^ 32

pub record IsDrawnCase (c : CaseStmt) : Type 0 where
  pub some : HasOne c.entries
  pub entries : AllByRecursion IsDrawnEntry c.entries

-- the version of the language that it is written in
abbrev pub written_in : Drawing → Edition
written_in d = edition_by (pos d.version)

pub record IsDrawnDrawing (d : Drawing) : Type 0 where
  pub version : (d.version ≡ 1) ⊎ (d.version ≡ 2)
  pub consts : AllByRecursion IsDrawnAssignment d.consts
  pub no_consts : written_in d ≡ First → d.consts ≡ []
  pub header : IsHeader d.header
  pub name : IsFreeWord d.name
  pub macros : AllByRecursion (IsDrawnMacro (written_in d)) d.macros
  pub body : AreDrawn (written_in d) d.body
  pub cases : AllByRecursion IsDrawnCase d.cases
