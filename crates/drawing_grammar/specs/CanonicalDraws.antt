-- The canonical text of a drawing draws it, places aside.
use Rattle.std.specs.Prelude.{ℕ, ◌≤◌, List, IfSome, ⊤}
use Rattle.std.specs.List.{AllByRecursion}
use Rattle.scald_lex.specs.declared.token.Token.{Token}
use Rattle.scald_lex.specs.Tokens.{AreTokens}
use Rattle.drawing_tree.specs.Expression.{Expression}
use Rattle.drawing_tree.specs.Tree as tree
use Rattle.drawing_grammar.specs.Nesting.{nesting, sum_nesting}
use Rattle.drawing_tree.specs.Places.{SameButPlaces}
use Rattle.drawing_tree.specs.Canonical.{canonical}
use Rattle.drawing_grammar.specs.Lexeme.{lexemes}
use Rattle.drawing_grammar.specs.Written.{limit}
use Rattle.drawing_grammar.specs.Drawing.{Draws}

-- ---- drawings whose canonical texts nest no deeper than a text may

abbrev pub IsShallow : Expression → Type 0
IsShallow e = sum_nesting e ≤ limit

abbrev pub IsShallowTest : Expression → Type 0
IsShallowTest e = nesting e ≤ limit

pub record IsShallowRange (range : tree.Range) : Type 0 where
  pub first : IsShallow range.first
  pub last : IfSome range.last IsShallow

abbrev pub IsShallowItem : tree.Item → Type 0
IsShallowItem tree.Zero = ⊤
IsShallowItem tree.One = ⊤
IsShallowItem (tree.Named name range) = IfSome range IsShallowRange

abbrev pub IsShallowConnection : tree.Connection → Type 0
IsShallowConnection c = AllByRecursion (λ t. IsShallowItem t.item) c.terms

abbrev pub IsShallowAssignment : tree.Assignment → Type 0
IsShallowAssignment a = IsShallow a.value

pub record IsShallowUse (u : tree.UseStatement) : Type 0 where
  pub delays : tree.EachDelay IsShallow u.delay u.fall
  pub params : AllByRecursion IsShallowAssignment u.params
  pub ins : AllByRecursion IsShallowConnection u.ins
  pub outs : AllByRecursion IsShallowConnection u.outs

pub record IsShallowWire (w : tree.WireStatement) : Type 0 where
  pub range : IfSome w.range IsShallowRange
  pub min : IsShallow w.min
  pub max : IsShallow w.max

abbrev mutual
  pub IsShallowStatement : tree.Statement → Type 0
  IsShallowStatement (tree.Use u) = IsShallowUse u
  IsShallowStatement (tree.Wire w) = IsShallowWire w
  IsShallowStatement (tree.If test ss other place) =
      IsShallowTest test × AreShallow ss × IsShallowOtherwise other
  IsShallowStatement (tree.For var first last ss place) =
      IsShallow first × IsShallow last × AreShallow ss

  pub AreShallow : tree.Statements → Type 0
  AreShallow tree.nil = ⊤
  AreShallow (tree.cons s ss) = IsShallowStatement s × AreShallow ss

  pub IsShallowOtherwise : tree.Otherwise → Type 0
  IsShallowOtherwise tree.no_else = ⊤
  IsShallowOtherwise (tree.else_ ss) = AreShallow ss

abbrev pub IsShallowFormal : tree.Formal → Type 0
IsShallowFormal f = IfSome f.range IsShallowRange

pub record IsShallowMacro (m : tree.Macro) : Type 0 where
  pub params : AllByRecursion IsShallowAssignment m.params
  pub ins : AllByRecursion IsShallowFormal m.ins
  pub outs : AllByRecursion IsShallowFormal m.outs
  pub body : AreShallow m.body

pub record IsShallowDrawing (d : tree.Drawing) : Type 0 where
  pub consts : AllByRecursion IsShallowAssignment d.consts
  pub macros : AllByRecursion IsShallowMacro d.macros
  pub body : AreShallow d.body

-- ---- the law

-- The text has tokens, and they draw the drawing.
pub record TextDraws (text : List ℕ) (d : tree.Drawing) : Type 0 where
  pub tokens : List Token
  pub are : AreTokens text tokens
  pub draws : Draws (lexemes text tokens) d

-- The text draws a drawing that is the same, places aside.
pub record DrawsAgain (text : List ℕ) (d : tree.Drawing) : Type 0 where
  pub drawing : tree.Drawing
  pub draws : TextDraws text drawing
  pub same : SameButPlaces d drawing

-- What some text draws, its canonical text draws too, if that does not nest too deep.
abbrev pub CanonicalDraws : Type 0
CanonicalDraws =
    (text : List ℕ) (d : tree.Drawing) → TextDraws text d → IsShallowDrawing d →
    DrawsAgain (canonical d) d
