-- Trees made of free words, of numbers of tokens and of good names, as those of a text are.
use Rattle.std.proofs.Common.{◌≡◌, ◌<◌, ◌^◌, List, [], ◌∷◌, length}
use Rattle.std.specs.Prelude.{IfSome, ⊤}
use Rattle.std.specs.List.{AllByRecursion}
use Rattle.assertion_syntax.specs.declared.name.SignalName.{SignalName}
use Rattle.drawing_tree.specs.declared.drawing.CaseEntry.{CaseEntry}
use Rattle.drawing_tree.specs.declared.drawing.CaseStmt.{CaseStmt}
use Rattle.drawing_tree.specs.Tree as tree
use Rattle.drawing_tree.specs.WellFormed.{IsFreeWord}
use Rattle.drawing_grammar.specs.declared.head.Head.{Head}
use Rattle.drawing_grammar.specs.declared.edition.Edition.{Edition}
use Rattle.drawing_grammar.specs.declared.edition.Edition.TheVariants.{First, Second}
use Rattle.drawing_grammar.specs.Sketch.{PlacedList, PlacedConstants, HeadedMacro, HeadedMacros, Sketch}
use Rattle.drawing_grammar.proofs.Drawable.{HasOne, IsDrawn, IsBeside, IsDrawnRange, IsDrawnAssignment, IsDrawnFormal}

abbrev pub IsItemOf : (SignalName → Type 0) → tree.Item → Type 0
IsItemOf G tree.Zero = ⊤
IsItemOf G tree.One = ⊤
IsItemOf G (tree.Named name range) = G name × IfSome range IsDrawnRange

abbrev pub IsTermOf : (SignalName → Type 0) → tree.Term → Type 0
IsTermOf G t = IsItemOf G t.item

pub record IsConnectionOf (G : SignalName → Type 0) (c : tree.Connection) : Type 0 where
  pub some : HasOne c.terms
  pub terms : AllByRecursion (IsTermOf G) c.terms

pub record IsUseOf (G : SignalName → Type 0) (u : tree.UseStatement) : Type 0 where
  pub label : IsFreeWord u.label
  pub kind : IsFreeWord u.kind
  pub delays : tree.EachDelay IsDrawn u.delay u.fall
  pub beside : IsBeside u.delay u.fall
  pub params : AllByRecursion IsDrawnAssignment u.params
  pub ins : AllByRecursion (IsConnectionOf G) u.ins
  pub outs : AllByRecursion (IsConnectionOf G) u.outs

pub record IsWireOf (G : SignalName → Type 0) (w : tree.WireStatement) : Type 0 where
  pub name : G w.name
  pub range : IfSome w.range IsDrawnRange
  pub min : IsDrawn w.min
  pub max : IsDrawn w.max

abbrev mutual
  pub IsStatementOf : (SignalName → Type 0) → Edition → tree.Statement → Type 0
  IsStatementOf G v (tree.Use u) = IsUseOf G u
  IsStatementOf G v (tree.Wire w) = IsWireOf G w
  IsStatementOf G v (tree.If test ss other place) = IsDrawn test × AreStatementsOf G v ss × IsOtherwiseOf G v other
  IsStatementOf G v (tree.For var first last ss place) =
      (v ≡ Second) × IsFreeWord var × IsDrawn first × IsDrawn last × AreStatementsOf G v ss

  pub AreStatementsOf : (SignalName → Type 0) → Edition → tree.Statements → Type 0
  AreStatementsOf G v tree.nil = ⊤
  AreStatementsOf G v (tree.cons s ss) = IsStatementOf G v s × AreStatementsOf G v ss

  pub IsOtherwiseOf : (SignalName → Type 0) → Edition → tree.Otherwise → Type 0
  IsOtherwiseOf G v tree.no_else = ⊤
  IsOtherwiseOf G v (tree.else_ ss) = AreStatementsOf G v ss

pub record IsMacroOf (G : SignalName → Type 0) (v : Edition) (m : tree.Macro) : Type 0 where
  pub name : IsFreeWord m.name
  pub params : AllByRecursion IsDrawnAssignment m.params
  pub ins : AllByRecursion IsDrawnFormal m.ins
  pub outs : AllByRecursion IsDrawnFormal m.outs
  pub body : AreStatementsOf G v m.body

pub record IsEntryOf (G : SignalName → Type 0) (e : CaseEntry) : Type 0 where
  pub name : G e.name
  pub bit : e.bit < 2 ^ 32
  pub value : e.value < 2 ^ 32

pub record IsCaseOf (G : SignalName → Type 0) (c : CaseStmt) : Type 0 where
  pub some : HasOne c.entries
  pub entries : AllByRecursion (IsEntryOf G) c.entries

-- with a place beside each item
pub record AllPlaced {A : Type 0} (P : A → Type 0) (xs : PlacedList A) : Type 0 where
  pub items : AllByRecursion P xs.items
  pub places : length xs.places ≡ length xs.items

-- a head has a place for each name
pub record IsHeadOf (m : tree.Macro) (h : Head) : Type 0 where
  pub parameters : length h.parameters ≡ length m.params
  pub ins : length h.ins ≡ length m.ins
  pub outs : length h.outs ≡ length m.outs

pub record IsHeadedOf (G : SignalName → Type 0) (v : Edition) (m : HeadedMacro) : Type 0 where
  pub macro : IsMacroOf G v m.macro
  pub head : IsHeadOf m.macro m.head

abbrev pub AreHeads : List tree.Macro → List Head → Type 0
AreHeads [] [] = ⊤
AreHeads [] (h ∷ hs) = ⊥
AreHeads (m ∷ ms) [] = ⊥
AreHeads (m ∷ ms) (h ∷ hs) = IsHeadOf m h × AreHeads ms hs

pub record AreMacrosOf (G : SignalName → Type 0) (v : Edition) (ms : HeadedMacros) : Type 0 where
  pub macros : AllByRecursion (IsMacroOf G v) ms.macros
  pub heads : AreHeads ms.macros ms.heads

-- constants, each with its places
pub record AreConstantsOf (cs : PlacedConstants) : Type 0 where
  pub constants : AllByRecursion IsDrawnAssignment cs.constants
  pub places : length cs.places ≡ length cs.constants
  pub name_places : length cs.name_places ≡ length cs.constants

pub record IsSketchOf (G : SignalName → Type 0) (v : Edition) (s : Sketch) : Type 0 where
  pub consts : AreConstantsOf s.consts
  pub no_consts : v ≡ First → s.consts.constants ≡ []
  pub macros : AreMacrosOf G v s.macros
  pub name : IsFreeWord s.name
  pub body : AreStatementsOf G v s.body
  pub cases : AllByRecursion (IsCaseOf G) s.cases
