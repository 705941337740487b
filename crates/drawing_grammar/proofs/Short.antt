-- A drawing of a text whose canonical text does not nest too deep has a canonical text within the limits.
use Rattle.std.proofs.Common.{ℕ, suc, List, [], ◌∷◌, Option, Some, None}
use Rattle.std.specs.Prelude.{IfSome}
use Rattle.std.specs.List.{AllByRecursion}
use Rattle.drawing_tree.specs.Expression.{Expression}
use Rattle.drawing_tree.specs.Tree as tree
use Rattle.drawing_grammar.specs.declared.edition.Edition.{Edition}
use Rattle.drawing_grammar.specs.Sketch.{Sketch}
use Rattle.drawing_grammar.specs.Drawing.{drawing_of_sketch}
use Rattle.drawing_grammar.specs.CanonicalDraws.{IsShallow, IsShallowRange, IsShallowItem, IsShallowConnection, IsShallowAssignment, IsShallowUse, IsShallowStatement, AreShallow, IsShallowOtherwise, IsShallowFormal, IsShallowMacro, IsShallowDrawing}
use Rattle.drawing_grammar.proofs.Drawable.{IsDrawn, IsDrawnRange, IsDrawnItem, IsDrawnTerm, IsDrawnConnection, IsDrawnAssignment, IsDrawnUse, IsDrawnStatement, AreDrawn, IsDrawnOtherwise, IsDrawnFormal, IsDrawnMacro, written_in, IsDrawnDrawing}
use Rattle.drawing_grammar.proofs.Modest.{IsFew, IsFewRange, IsFewItem, IsFewConnection, IsFewAssignment, IsFewUse, IsModestStatement, AreModest, IsModestOtherwise, IsFewFormal, IsModestMacro, IsModestSketch}
use Rattle.drawing_grammar.proofs.PhraseConnection.{IsShort, IsShortRange, IsShortItem}
use Rattle.drawing_grammar.proofs.PhraseConnections.{IsShortConnection}
use Rattle.drawing_grammar.proofs.PhraseParameters.{IsShortAssignment}
use Rattle.drawing_grammar.proofs.PhraseUse.{IsShortUse}
use Rattle.drawing_grammar.proofs.PhraseStatement.{IsShortStatement, AreShort, IsShortOtherwise}
use Rattle.drawing_grammar.proofs.PhraseFormals.{IsShortFormal}
use Rattle.drawing_grammar.proofs.PhraseMacro.{IsShortMacro}
use Rattle.drawing_grammar.proofs.PhraseText.{IsShortDrawing}

-- three facts of each item together
three : {A : Type 0} (P Q R S : A → Type 0) → ((x : A) → P x → Q x → R x → S x) → (xs : List A) → AllByRecursion P xs → AllByRecursion Q xs → AllByRecursion R xs → AllByRecursion S xs
three P Q R S f [] p q r = tt
three P Q R S f (x ∷ xs) p q r = (f x p.0 q.0 r.0, three P Q R S f xs p.1 q.1 r.1)

short : (x : Expression) → IsDrawn x → IsShallow x → IsFew x → IsShort x
short x p q r = record { drawn = p; nests = q; few = r }

last_short : (o : Option Expression) → IfSome o IsDrawn → IfSome o IsShallow → IfSome o IsFew → IfSome o IsShort
last_short None p q r = tt
last_short (Some x) p q r = short x p q r

range_short : (o : Option tree.Range) → IfSome o IsDrawnRange → IfSome o IsShallowRange → IfSome o IsFewRange → IfSome o IsShortRange
range_short None p q r = tt
range_short (Some x) p q r = record { first = short x.first p.first q.first r.first; last = last_short x.last p.last q.last r.last }

item_short : (i : tree.Item) → IsDrawnItem i → IsShallowItem i → IsFewItem i → IsShortItem i
item_short tree.Zero p q r = tt
item_short tree.One p q r = tt
item_short (tree.Named n range) p q r = (p.0, range_short range p.1 q r)

connection_short : (c : tree.Connection) → IsDrawnConnection c → IsShallowConnection c → IsFewConnection c → IsShortConnection c
connection_short c p q r =
    record {
      some = p.some;
      terms = three IsDrawnTerm (λ t. IsShallowItem t.item)
          (λ t. IsFewItem t.item) (λ t. IsShortItem t.item) (λ t u v w. item_short t.item u v w) c.terms p.terms q r;
    }

assignment_short : (a : tree.Assignment) → IsDrawnAssignment a → IsShallowAssignment a → IsFewAssignment a → IsShortAssignment a
assignment_short a p q r = record { name = p.name; value = short a.value p.value q r }

fall_short : (o : Option (Expression × Expression)) → IfSome o (λ d. IsDrawn d.0 × IsDrawn d.1) →
    IfSome o (λ d. IsShallow d.0 × IsShallow d.1) → IfSome o (λ d. IsFew d.0 × IsFew d.1) → IfSome o (λ d. IsShort d.0 × IsShort d.1)
fall_short None p q r = tt
fall_short (Some d) p q r = (short d.0 p.0 q.0 r.0, short d.1 p.1 q.1 r.1)

delays_short : (delay fall : Option (Expression × Expression)) → tree.EachDelay IsDrawn delay fall →
    tree.EachDelay IsShallow delay fall → tree.EachDelay IsFew delay fall → tree.EachDelay IsShort delay fall
delays_short None fall p q r = tt
delays_short (Some d) fall p q r = ((short d.0 p.0.0 q.0.0 r.0.0, short d.1 p.0.1 q.0.1 r.0.1), fall_short fall p.1 q.1 r.1)

use_short : (u : tree.UseStatement) → IsDrawnUse u → IsShallowUse u → IsFewUse u → IsShortUse u
use_short u p q r = record {
  label = p.label;
  kind = p.kind;
  delays = delays_short u.delay u.fall p.delays q.delays r.delays;
  beside = p.beside;
  params = three IsDrawnAssignment IsShallowAssignment IsFewAssignment IsShortAssignment assignment_short u.params p.params q.params r.params;
  ins = three IsDrawnConnection IsShallowConnection IsFewConnection IsShortConnection connection_short u.ins p.ins q.ins r.ins;
  outs = three IsDrawnConnection IsShallowConnection IsFewConnection IsShortConnection connection_short u.outs p.outs q.outs r.outs;
}

mutual
  statement_short : (v : Edition) (n : ℕ) (s : tree.Statement) → IsDrawnStatement v s → IsShallowStatement s → IsModestStatement n s → IsShortStatement v n s
  statement_short v n (tree.Use u) p q r = use_short u p q r
  statement_short v n (tree.Wire w) p q r = record { name = p.name; range = range_short w.range p.range q.range r.range; min = short w.min p.min q.min r.min; max = short w.max p.max q.max r.max }
  statement_short v n (tree.If test ss other place) p q r = (
    r.0,
    record { drawn = p.0; nests = q.0; few = r.1 },
    statements_short v (suc n) ss p.1 q.1 r.2,
    otherwise_short v (suc n) other p.2 q.2 r.3,
  )
  statement_short v n (tree.For var first last ss place) p q r =
      (p.0, r.0, p.1, short first p.2 q.0 r.1, short last p.3 q.1 r.2, statements_short v (suc n) ss p.4 q.2 r.3)

  statements_short : (v : Edition) (n : ℕ) (ss : tree.Statements) → AreDrawn v ss → AreShallow ss → AreModest n ss → AreShort v n ss
  statements_short v n tree.nil p q r = tt
  statements_short v n (tree.cons s ss) p q r = (statement_short v n s p.0 q.0 r.0, statements_short v n ss p.1 q.1 r.1)

  otherwise_short : (v : Edition) (n : ℕ) (o : tree.Otherwise) → IsDrawnOtherwise v o → IsShallowOtherwise o → IsModestOtherwise n o → IsShortOtherwise v n o
  otherwise_short v n tree.no_else p q r = tt
  otherwise_short v n (tree.else_ ss) p q r = statements_short v n ss p q r

formal_short : (f : tree.Formal) → IsDrawnFormal f → IsShallowFormal f → IsFewFormal f → IsShortFormal f
formal_short f p q r = record { base = p.base; range = range_short f.range p.range q r }

macro_short : (v : Edition) (m : tree.Macro) → IsDrawnMacro v m → IsShallowMacro m → IsModestMacro m → IsShortMacro v m
macro_short v m p q r = record {
  name = p.name;
  params = three IsDrawnAssignment IsShallowAssignment IsFewAssignment IsShortAssignment assignment_short m.params p.params q.params r.params;
  ins = three IsDrawnFormal IsShallowFormal IsFewFormal IsShortFormal formal_short m.ins p.ins q.ins r.ins;
  outs = three IsDrawnFormal IsShallowFormal IsFewFormal IsShortFormal formal_short m.outs p.outs q.outs r.outs;
  body = statements_short v 0 m.body p.body q.body r.body;
}

pub drawing_short : (s : Sketch) → IsDrawnDrawing (drawing_of_sketch s) → IsShallowDrawing (drawing_of_sketch s) → IsModestSketch s →
    IsShortDrawing (written_in (drawing_of_sketch s)) (drawing_of_sketch s)
drawing_short s p q r =
    let v = written_in (drawing_of_sketch s) in record {
      name = p.name;
      consts = three IsDrawnAssignment IsShallowAssignment IsFewAssignment IsShortAssignment assignment_short s.consts.constants p.consts q.consts r.consts;
      no_consts = p.no_consts;
      macros = three (IsDrawnMacro v) IsShallowMacro IsModestMacro (IsShortMacro v) (macro_short v) s.macros.macros p.macros q.macros r.macros;
      body = statements_short v 0 s.body p.body q.body r.body;
      cases = p.cases;
    }
