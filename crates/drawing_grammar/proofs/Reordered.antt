-- The canonical text of a drawing in version 2 draws it, if some text draws one that differs in the order of connections alone.
use Rattle.std.proofs.Common.{◌≡◌, ℕ, pos, List, [], ◌∷◌, ◌++◌, length, suc, refl, sym, ap, ◌∙◌, subst}
use Rattle.std.specs.Prelude.{All, Contains}
use Rattle.std.specs.List.{AllByRecursion}
use Rattle.std.proofs.lemmas.List.Elements.{All-weaker, All-contains, All-from_recursion, recursion_from_All}
use Rattle.scald_base.specs.Time.{Header}
use Rattle.assertion_syntax.specs.declared.name.SignalName.{SignalName}
use Rattle.drawing_tree.specs.Tree as tree
use Rattle.drawing_tree.specs.WellFormed.{IsFreeWord, IsGoodName}
use Rattle.drawing_grammar.specs.declared.declared.Kind.TheVariants.{Label}
use Rattle.drawing_grammar.specs.declared.edition.Edition.{Edition}
use Rattle.drawing_grammar.specs.declared.edition.Edition.TheVariants.{Second}
use Rattle.drawing_grammar.specs.declared.head.Head.{Head}
use Rattle.drawing_grammar.specs.Edition.{edition_by}
use Rattle.drawing_grammar.specs.Header.{is_version}
use Rattle.drawing_grammar.specs.DoubleNames.{Declaration, declaration, constants, statement_labels, labels, else_labels, head_declared, macros_declared, IsDistinct}
use Rattle.drawing_grammar.specs.Sketch.{Sketch}
use Rattle.drawing_grammar.specs.Written.{values}
use Rattle.drawing_grammar.specs.Drawing.{drawing_of_sketch, declared_by}
use Rattle.drawing_grammar.specs.Reordered.{IsReorderedUse, IsReorderedStatement, AreReordered, IsReorderedOtherwise, IsReorderedMacro, AreReorderedMacros, IsReordered, ReorderedDraws}
use Rattle.drawing_grammar.proofs.Again.{IsDrawnSketch, drawn_sketch, sketch_draws}
use Rattle.drawing_grammar.proofs.Drawable.{IsDrawn}
use Rattle.drawing_grammar.proofs.Judging.{passed}
use Rattle.drawing_grammar.proofs.Modest.{IsFew, IsFewConnection, IsFewUse, IsFewWire, IsModestStatement, AreModest, IsModestOtherwise, IsModestMacro}
use Rattle.drawing_grammar.proofs.ProperTrees.{IsConnectionOf, IsUseOf, IsWireOf, IsStatementOf, AreStatementsOf, IsOtherwiseOf, IsMacroOf, IsHeadOf, AreHeads}

-- What holds of all of some holds of all that are among them.
among : {A : Type 0} (P : A → Type 0) (xs ys : List A) → All (Contains xs) ys → AllByRecursion P xs → AllByRecursion P ys
among P xs ys are p =
    recursion_from_All P ys (All-weaker (Contains xs) P (λ y c. All-contains P xs y (All-from_recursion P xs p) c) ys are)

-- ---- they are made of words, numbers and names as the first are, and what version 1 writes, version 2 writes too

module _ (G : SignalName → Type 0) (v : Edition) where
  use_proper : (u w : tree.UseStatement) → IsReorderedUse u w → IsUseOf G u → IsUseOf G w
  use_proper u w r p =
      let q : IsUseOf G (record w { ins = u.ins }) = subst (IsUseOf G) (sym r.rest) p in
      record {
        label = q.label;
        kind = q.kind;
        delays = q.delays;
        beside = q.beside;
        params = q.params;
        ins = among (IsConnectionOf G) u.ins w.ins r.ins p.ins;
        outs = q.outs;
      }

  mutual
    statement_proper : (s t : tree.Statement) → IsReorderedStatement s t → IsStatementOf G v s → IsStatementOf G Second t
    statement_proper (tree.Use u) (tree.Use w) r p = use_proper u w r p
    statement_proper (tree.Wire a) (tree.Wire b) r p = subst (IsWireOf G) (sym r) p
    statement_proper (tree.If x ss o i) (tree.If y ts q j) r p =
        (subst IsDrawn (sym r.0) p.0, statements_proper ss ts r.1 p.1, otherwise_proper o q r.2 p.2)
    statement_proper (tree.For a x y ss i) (tree.For b z w ts j) r p =
        (refl, subst IsFreeWord (sym r.0) p.1, subst IsDrawn (sym r.1) p.2, subst IsDrawn (sym r.2) p.3, statements_proper ss ts r.3 p.4)
    statement_proper _ _ r p = absurd r

    statements_proper : (ss ts : tree.Statements) → AreReordered ss ts → AreStatementsOf G v ss → AreStatementsOf G Second ts
    statements_proper tree.nil tree.nil r p = tt
    statements_proper (tree.cons s ss) (tree.cons t ts) r p = (statement_proper s t r.0 p.0, statements_proper ss ts r.1 p.1)
    statements_proper _ _ r p = absurd r

    otherwise_proper : (o q : tree.Otherwise) → IsReorderedOtherwise o q → IsOtherwiseOf G v o → IsOtherwiseOf G Second q
    otherwise_proper tree.no_else tree.no_else r p = tt
    otherwise_proper (tree.else_ ss) (tree.else_ ts) r p = statements_proper ss ts r p
    otherwise_proper _ _ r p = absurd r

  macro_proper : (m n : tree.Macro) → IsReorderedMacro m n → IsMacroOf G v m → IsMacroOf G Second n
  macro_proper m n r p =
      let q : IsMacroOf G v (record n { body = m.body }) = subst (IsMacroOf G v) (sym r.rest) p in
      record { name = q.name; params = q.params; ins = q.ins; outs = q.outs; body = statements_proper m.body n.body r.body p.body }

  macros_proper : (ms ns : List tree.Macro) → AreReorderedMacros ms ns → AllByRecursion (IsMacroOf G v) ms → AllByRecursion (IsMacroOf G Second) ns
  macros_proper [] [] r p = tt
  macros_proper (m ∷ ms) (n ∷ ns) r p = (macro_proper m n r.0 p.0, macros_proper ms ns r.1 p.1)
  macros_proper _ _ r p = absurd r

head_proper : (m n : tree.Macro) (h : Head) → IsReorderedMacro m n → IsHeadOf m h → IsHeadOf n h
head_proper m n h r p =
    let q : IsHeadOf (record n { body = m.body }) h = subst (λ (x : tree.Macro). IsHeadOf x h) (sym r.rest) p in
    record { parameters = q.parameters; ins = q.ins; outs = q.outs }

heads_proper : (ms ns : List tree.Macro) (hs : List Head) → AreReorderedMacros ms ns → AreHeads ms hs → AreHeads ns hs
heads_proper [] [] hs r p = p
heads_proper (m ∷ ms) (n ∷ ns) [] r p = absurd p
heads_proper (m ∷ ms) (n ∷ ns) (h ∷ hs) r p = (head_proper m n h r.0 p.0, heads_proper ms ns hs r.1 p.1)
heads_proper _ _ hs r p = absurd r

-- ---- they are within the limits as the first are

use_few : (u w : tree.UseStatement) → IsReorderedUse u w → IsFewUse u → IsFewUse w
use_few u w r p =
    let q : IsFewUse (record w { ins = u.ins }) = subst IsFewUse (sym r.rest) p in
    record { delays = q.delays; params = q.params; ins = among IsFewConnection u.ins w.ins r.ins p.ins; outs = q.outs }

mutual
  statement_modest : (n : ℕ) (s t : tree.Statement) → IsReorderedStatement s t → IsModestStatement n s → IsModestStatement n t
  statement_modest n (tree.Use u) (tree.Use w) r p = use_few u w r p
  statement_modest n (tree.Wire a) (tree.Wire b) r p = subst IsFewWire (sym r) p
  statement_modest n (tree.If x ss o i) (tree.If y ts q j) r p =
      (p.0, subst IsFew (sym r.0) p.1, statements_modest (suc n) ss ts r.1 p.2, otherwise_modest (suc n) o q r.2 p.3)
  statement_modest n (tree.For a x y ss i) (tree.For b z w ts j) r p =
      (p.0, subst IsFew (sym r.1) p.1, subst IsFew (sym r.2) p.2, statements_modest (suc n) ss ts r.3 p.3)
  statement_modest n _ _ r p = absurd r

  statements_modest : (n : ℕ) (ss ts : tree.Statements) → AreReordered ss ts → AreModest n ss → AreModest n ts
  statements_modest n tree.nil tree.nil r p = tt
  statements_modest n (tree.cons s ss) (tree.cons t ts) r p = (statement_modest n s t r.0 p.0, statements_modest n ss ts r.1 p.1)
  statements_modest n _ _ r p = absurd r

  otherwise_modest : (n : ℕ) (o q : tree.Otherwise) → IsReorderedOtherwise o q → IsModestOtherwise n o → IsModestOtherwise n q
  otherwise_modest n tree.no_else tree.no_else r p = tt
  otherwise_modest n (tree.else_ ss) (tree.else_ ts) r p = statements_modest n ss ts r p
  otherwise_modest n _ _ r p = absurd r

macro_modest : (m n : tree.Macro) → IsReorderedMacro m n → IsModestMacro m → IsModestMacro n
macro_modest m n r p =
    let q : IsModestMacro (record n { body = m.body }) = subst IsModestMacro (sym r.rest) p in
    record { params = q.params; ins = q.ins; outs = q.outs; body = statements_modest 0 m.body n.body r.body p.body }

macros_modest : (ms ns : List tree.Macro) → AreReorderedMacros ms ns → AllByRecursion IsModestMacro ms → AllByRecursion IsModestMacro ns
macros_modest [] [] r p = tt
macros_modest (m ∷ ms) (n ∷ ns) r p = (macro_modest m n r.0 p.0, macros_modest ms ns r.1 p.1)
macros_modest _ _ r p = absurd r

-- ---- they declare the same

joined : (a b c d : List Declaration) → a ≡ c → b ≡ d → a ++ b ≡ c ++ d
joined a b c d e f = rw (e, f) refl

mutual
  unfolding statement_labels labels else_labels

  statement_declares : (k : ℕ) (s t : tree.Statement) → IsReorderedStatement s t → statement_labels k t ≡ statement_labels k s
  statement_declares k (tree.Use u) (tree.Use w) r = ap (λ (x : tree.UseStatement). declaration k Label x.label x.place ∷ []) r.rest
  statement_declares k (tree.Wire a) (tree.Wire b) r = refl
  statement_declares k (tree.If x ss o i) (tree.If y ts q j) r =
      joined (labels k ts) (else_labels k q) (labels k ss) (else_labels k o) (statements_declare k ss ts r.1) (otherwise_declares k o q r.2)
  statement_declares k (tree.For a x y ss i) (tree.For b z w ts j) r = statements_declare k ss ts r.3
  statement_declares k _ _ r = absurd r

  statements_declare : (k : ℕ) (ss ts : tree.Statements) → AreReordered ss ts → labels k ts ≡ labels k ss
  statements_declare k tree.nil tree.nil r = refl
  statements_declare k (tree.cons s ss) (tree.cons t ts) r =
      joined (statement_labels k t) (labels k ts) (statement_labels k s) (labels k ss) (statement_declares k s t r.0) (statements_declare k ss ts r.1)
  statements_declare k _ _ r = absurd r

  otherwise_declares : (k : ℕ) (o q : tree.Otherwise) → IsReorderedOtherwise o q → else_labels k q ≡ else_labels k o
  otherwise_declares k tree.no_else tree.no_else r = refl
  otherwise_declares k (tree.else_ ss) (tree.else_ ts) r = statements_declare k ss ts r
  otherwise_declares k _ _ r = absurd r

macro_declares : (k : ℕ) (m n : tree.Macro) (h : Head) → IsReorderedMacro m n → head_declared k n h ++ labels k n.body ≡ head_declared k m h ++ labels k m.body
macro_declares k m n h r =
    joined (head_declared k n h) (labels k n.body) (head_declared k m h) (labels k m.body)
    (ap (λ (x : tree.Macro). head_declared k x h) r.rest) (statements_declare k m.body n.body r.body)

macros_declare : (k : ℕ) (ms ns : List tree.Macro) (hs : List Head) → AreReorderedMacros ms ns → macros_declared k ns hs ≡ macros_declared k ms hs
macros_declare k [] [] hs r = refl
macros_declare k (m ∷ ms) (n ∷ ns) [] r = refl
macros_declare k (m ∷ ms) (n ∷ ns) (h ∷ hs) r =
    joined (head_declared k n h ++ labels k n.body) (macros_declared (suc k) ns hs) (head_declared k m h ++ labels k m.body) (macros_declared (suc k) ms hs)
    (macro_declares k m n h r.0) (macros_declare (suc k) ms ns hs r.1)
macros_declare k _ _ hs r = absurd r

as_many : (ms ns : List tree.Macro) → AreReorderedMacros ms ns → length ns ≡ length ms
as_many [] [] r = refl
as_many (m ∷ ms) (n ∷ ns) r = ap suc (as_many ms ns r.1)
as_many _ _ r = absurd r

-- ---- the law

-- what stands for the second drawing, if this stands for the first
abbrev reordered : Sketch → tree.Drawing → Sketch
reordered s e =
    let header = s.header in
    record s { header = record header { version = pos 2 }; macros = record { macros = e.macros; heads = s.macros.heads }; body = e.body }

stands : (s : Sketch) (e : tree.Drawing) → IsReordered (drawing_of_sketch s) e → drawing_of_sketch (reordered s e) ≡ e
stands s e r =
    ap (λ (x : tree.Drawing). record x { version = 2; macros = e.macros; body = e.body }) (sym r.rest)
    ∙ ap (λ (n : ℕ). record e { version = n }) (sym r.version)

declares : (s : Sketch) (e : tree.Drawing) → IsReordered (drawing_of_sketch s) e → declared_by (reordered s e) ≡ declared_by s
declares s e r =
    let heads = s.macros.heads in
    let count = as_many s.macros.macros e.macros r.macros in
    let inside : labels (length e.macros) e.body ≡ labels (length s.macros.macros) s.body =
    ap (λ (n : ℕ). labels n e.body) count ∙ statements_declare (length s.macros.macros) s.body e.body r.body in
    ap (λ (ds : List Declaration). constants s.consts.constants s.consts.name_places ++ ds)
    (joined (macros_declared 0 e.macros heads) (labels (length e.macros) e.body) (macros_declared 0 s.macros.macros heads)
    (labels (length s.macros.macros) s.body) (macros_declare 0 s.macros.macros e.macros heads r.macros) inside)

reordered_is : (h : Header) (s : Sketch) (e : tree.Drawing) → IsReordered (drawing_of_sketch s) e → IsDrawnSketch h s → IsDrawnSketch h (reordered s e)
reordered_is h s e r is =
    let G : SignalName → Type 0 = λ n. IsGoodName h n in
    let v = edition_by s.header.version in
    let p = is.proper in
    record {
      header = (passed (is_version s.header.version) s.header.place _ h is.header).1;
      proper = record {
        consts = p.consts;
        no_consts = λ i. absurd cc;
        macros = record {
          macros = macros_proper G v s.macros.macros e.macros r.macros p.macros.macros;
          heads = heads_proper s.macros.macros e.macros s.macros.heads r.macros p.macros.heads;
        };
        name = p.name;
        body = statements_proper G v s.body e.body r.body p.body;
        cases = p.cases;
      };
      distinct = subst IsDistinct (sym (declares s e r)) is.distinct;
      modest = record {
        consts = is.modest.consts;
        macros = macros_modest s.macros.macros e.macros r.macros is.modest.macros;
        body = statements_modest 0 s.body e.body r.body is.modest.body;
      };
    }

pub law : ReorderedDraws
law text d e x r shallow =
    let s : Sketch = (values x.draws.written).0 in
    let same : IsReordered (drawing_of_sketch s) e = subst (λ (y : tree.Drawing). IsReordered y e) (sym x.draws.stands) r in
    sketch_draws d.header (reordered s e) (reordered_is d.header s e same (drawn_sketch text d x)) e (stands s e same) shallow
