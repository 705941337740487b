-- A drawing of version 2 that differs from another in the order of input connections alone.
use Rattle.std.specs.Prelude.{◌≡◌, ℕ, List, [], ◌∷◌, All, Contains, ⊤}
use Rattle.drawing_tree.specs.Tree.{UseStatement, Statement, Use, Wire, If, For, Statements, nil, cons, Otherwise, no_else, else_, Macro, Drawing}
use Rattle.drawing_tree.specs.Canonical.{canonical}
use Rattle.drawing_grammar.specs.CanonicalDraws.{TextDraws, IsShallowDrawing, DrawsAgain}

-- the same use, its input connections in whatever order
pub record IsReorderedUse (u v : UseStatement) : Type 0 where
  pub rest : record v { ins = u.ins } ≡ u
  pub ins : All (Contains u.ins) v.ins

abbrev mutual
  pub IsReorderedStatement : Statement → Statement → Type 0
  IsReorderedStatement (Use u) (Use v) = IsReorderedUse u v
  IsReorderedStatement (Wire w) (Wire v) = v ≡ w
  IsReorderedStatement (If test taken other place) (If test' taken' other' place') =
      (test' ≡ test) × AreReordered taken taken' × IsReorderedOtherwise other other'
      × (place' ≡ place)
  IsReorderedStatement (For var first last body place) (For var' first' last' body' place') =
      (var' ≡ var) × (first' ≡ first) × (last' ≡ last) × AreReordered body body' × (place' ≡ place)
  IsReorderedStatement _ _ = ⊥

  pub AreReordered : Statements → Statements → Type 0
  AreReordered nil nil = ⊤
  AreReordered (cons s ss) (cons t ts) = IsReorderedStatement s t × AreReordered ss ts
  AreReordered _ _ = ⊥

  pub IsReorderedOtherwise : Otherwise → Otherwise → Type 0
  IsReorderedOtherwise no_else no_else = ⊤
  IsReorderedOtherwise (else_ ss) (else_ ts) = AreReordered ss ts
  IsReorderedOtherwise _ _ = ⊥

pub record IsReorderedMacro (m n : Macro) : Type 0 where
  pub rest : record n { body = m.body } ≡ m
  pub body : AreReordered m.body n.body

abbrev pub AreReorderedMacros : List Macro → List Macro → Type 0
AreReorderedMacros [] [] = ⊤
AreReorderedMacros (m ∷ ms) (n ∷ ns) = IsReorderedMacro m n × AreReorderedMacros ms ns
AreReorderedMacros _ _ = ⊥

-- whatever the version of the first
pub record IsReordered (d e : Drawing) : Type 0 where
  pub version : e.version ≡ 2
  pub rest : record e { version = d.version; macros = d.macros; body = d.body } ≡ d
  pub macros : AreReorderedMacros d.macros e.macros
  pub body : AreReordered d.body e.body

-- If some text draws a drawing, one of version 2 that differs from it in that order alone is
-- drawn by its canonical text, places aside, if that does not nest too deep.
abbrev pub ReorderedDraws : Type 0
ReorderedDraws =
    (text : List ℕ) (d e : Drawing) → TextDraws text d → IsReordered d e → IsShallowDrawing e →
    DrawsAgain (canonical e) e
