-- Well formed drawings: names that are names, words that are words and not reserved, a header that
-- may be, and nothing named twice.
use Rattle.std.specs.Prelude.{◌≡◌, ℕ, false, List, [], ◌∷◌, ◌++◌, length, map, All, IfSome, ⊤, ◌⊎◌}
use Rattle.std.specs.List.{IsDistinct}
use Rattle.std.specs.Str.{bytes_eq}
use Rattle.scald_base.specs.Time.{Header, IsHeader}
use Rattle.scald_base.specs.Fitting.{Fits}
use Rattle.scald_base.specs.Word.{IsWord, is_reserved}
use Rattle.element_kinds.specs.Kinds.{kind_names}
use Rattle.drawing_tree.specs.Expression.{Expression, Number, Param, Negate, Binary}
use Rattle.assertion_syntax.specs.declared.name.SignalName.{SignalName}
use Rattle.assertion_syntax.specs.Name.{IsName, IsBase}
use Rattle.drawing_tree.specs.declared.drawing.CaseEntry.{CaseEntry}
use Rattle.drawing_tree.specs.declared.drawing.CaseStmt.{CaseStmt}
use Rattle.drawing_tree.specs.Tree.{Range, Item, Zero, One, Named, Connection, Assignment, UseStatement, WireStatement, Statement, Use, Wire, If, For, Statements, nil, cons, Otherwise, no_else, else_, Formal, Macro, Drawing, EachDelay}

-- ---- words and names

-- a label, a kind, a parameter or a drawing's name
pub record IsFreeWord (word : List ℕ) : Type 0 where
  pub is_word : IsWord word
  pub is_free : is_reserved word ≡ false

-- a signal's name whose assertion fits the header
pub record IsGoodName (h : Header) (n : SignalName) : Type 0 where
  pub is_name : IsName n
  pub fits : Fits h n.spec

abbrev pub IsGoodExpression : Expression → Type 0
IsGoodExpression (Number n) = ⊤
IsGoodExpression (Param name) = IsFreeWord name
IsGoodExpression (Negate operand) = IsGoodExpression operand
IsGoodExpression (Binary op left right) = IsGoodExpression left × IsGoodExpression right

pub record IsGoodRange (range : Range) : Type 0 where
  pub first : IsGoodExpression range.first
  pub last : IfSome range.last IsGoodExpression

abbrev pub IsGoodItem : Header → Item → Type 0
IsGoodItem h Zero = ⊤
IsGoodItem h One = ⊤
IsGoodItem h (Named name range) = IsGoodName h name × IfSome range IsGoodRange

abbrev pub IsGoodConnection : Header → Connection → Type 0
IsGoodConnection h c = All (λ t. IsGoodItem h t.item) c.terms

pub record IsGoodAssignment (a : Assignment) : Type 0 where
  pub name : IsFreeWord a.name
  pub value : IsGoodExpression a.value

-- ---- statements

pub record IsGoodUse (h : Header) (u : UseStatement) : Type 0 where
  pub label : IsFreeWord u.label
  pub kind : IsFreeWord u.kind
  pub delays : EachDelay IsGoodExpression u.delay u.fall
  pub params : All IsGoodAssignment u.params
  pub ins : All (IsGoodConnection h) u.ins
  pub outs : All (IsGoodConnection h) u.outs

pub record IsGoodWire (h : Header) (w : WireStatement) : Type 0 where
  pub name : IsGoodName h w.name
  pub range : IfSome w.range IsGoodRange
  pub min : IsGoodExpression w.min
  pub max : IsGoodExpression w.max

abbrev mutual
  pub IsGoodStatement : Header → Statement → Type 0
  IsGoodStatement h (Use u) = IsGoodUse h u
  IsGoodStatement h (Wire w) = IsGoodWire h w
  IsGoodStatement h (If test behind_then behind_else place) =
      IsGoodExpression test × AreGoodStatements h behind_then × IsGoodOtherwise h behind_else
  IsGoodStatement h (For var first last body place) =
      IsFreeWord var × IsGoodExpression first × IsGoodExpression last × AreGoodStatements h body

  pub AreGoodStatements : Header → Statements → Type 0
  AreGoodStatements h nil = ⊤
  AreGoodStatements h (cons s ss) = IsGoodStatement h s × AreGoodStatements h ss

  pub IsGoodOtherwise : Header → Otherwise → Type 0
  IsGoodOtherwise h no_else = ⊤
  IsGoodOtherwise h (else_ ss) = AreGoodStatements h ss

-- the labels of a body, those inside of IFs and FORs too, in the order of the text
abbrev mutual
  pub statement_labels : Statement → List (List ℕ)
  statement_labels (Use u) = u.label ∷ []
  statement_labels (Wire w) = []
  statement_labels (If test behind_then behind_else place) =
      labels behind_then ++ else_labels behind_else
  statement_labels (For var first last body place) = labels body

  pub labels : Statements → List (List ℕ)
  labels nil = []
  labels (cons s ss) = statement_labels s ++ labels ss

  pub else_labels : Otherwise → List (List ℕ)
  else_labels no_else = []
  else_labels (else_ ss) = labels ss

-- no text stands twice
abbrev pub AreDifferent : List (List ℕ) → Type 0
AreDifferent texts = IsDistinct bytes_eq texts

pub record IsGoodBody (h : Header) (body : Statements) : Type 0 where
  pub statements : AreGoodStatements h body
  pub labels : AreDifferent (labels body)

-- ---- drawings

pub record IsGoodFormal (f : Formal) : Type 0 where
  pub base : IsBase f.base
  pub range : IfSome f.range IsGoodRange

-- The formals of a macro, inputs and outputs, have different bases.
pub record IsGoodMacro (h : Header) (m : Macro) : Type 0 where
  pub name : IsFreeWord m.name
  pub params : All IsGoodAssignment m.params
  pub ins : All IsGoodFormal m.ins
  pub outs : All IsGoodFormal m.outs
  pub body : IsGoodBody h m.body
  pub different_params : AreDifferent (map (λ p. p.name) m.params)
  pub different_formals : AreDifferent (map (λ f. f.base) (m.ins ++ m.outs))

-- the names of the primitives, which no macro may have
abbrev pub primitive_names : List (List ℕ)
primitive_names = kind_names

abbrev pub IsGoodEntry : Header → CaseEntry → Type 0
IsGoodEntry h e = IsGoodName h e.name

abbrev pub IsGoodCase : Header → CaseStmt → Type 0
IsGoodCase h c = All (IsGoodEntry h) c.entries

-- A drawing is of version 1 or 2, and each of its constants has a place.
pub record IsWellFormed (d : Drawing) : Type 0 where
  pub version : (d.version ≡ 1) ⊎ (d.version ≡ 2)
  pub header : IsHeader d.header
  pub consts : All IsGoodAssignment d.consts
  pub const_places : length d.const_places ≡ length d.consts
  pub name : IsFreeWord d.name
  pub macros : All (IsGoodMacro d.header) d.macros
  pub body : IsGoodBody d.header d.body
  pub cases : All (IsGoodCase d.header) d.cases
  pub different_consts : AreDifferent (map (λ c. c.name) d.consts)
  pub different_kinds : AreDifferent (primitive_names ++ map (λ m. m.name) d.macros)
