-- What a text within the rules draws: its drawing is well formed, and one that canonical texts draw.
use Rattle.std.proofs.Common.{◌≡◌, ℕ, ◌≤◌, zero, suc, true, false, List, ◌++◌, ℤ, pos, negsuc, Option, Some, None, ◌⊎◌, inl, inr, refl, map, arith, sym, subst}
use Rattle.std.specs.Prelude.{IfSome, All, Ok, int_le}
use Rattle.std.proofs.lemmas.Bool.{and_parts, leb-true}
use Rattle.std.specs.List.{AllByRecursion}
use Rattle.std.proofs.lemmas.List.Elements.{All-from_recursion}
use Rattle.scald_base.specs.Time.{Header, IsHeader}
use Rattle.scald_lex.specs.declared.token.Token as lex
use Rattle.scald_lex.specs.Tokens.{AreTokens}
use Rattle.drawing_tree.specs.Expression.{Expression, Number, Param, Negate, Binary}
use Rattle.assertion_syntax.specs.declared.name.SignalName.{SignalName}
use Rattle.assertion_syntax.specs.Name.{IsName}
use Rattle.drawing_tree.specs.declared.drawing.CaseEntry.{CaseEntry}
use Rattle.drawing_tree.specs.declared.drawing.CaseStmt.{CaseStmt}
use Rattle.drawing_tree.specs.Tree as tree
use Rattle.drawing_tree.specs.WellFormed as well
use Rattle.drawing_tree.specs.WellFormed.{IsGoodName, IsGoodExpression, IsGoodRange}
use Rattle.drawing_grammar.specs.declared.edition.Edition.{Edition}
use Rattle.drawing_grammar.specs.Edition.{edition_by}
use Rattle.drawing_grammar.specs.Lexeme.{lexemes}
use Rattle.drawing_grammar.specs.declared.header.WrittenHeader.{WrittenHeader}
use Rattle.drawing_grammar.specs.Header.{natural, is_version, is_clock, is_bounds, is_skew, judged, header_of}
use Rattle.drawing_grammar.specs.Drawing.{drawing_of_sketch}
use Rattle.drawing_grammar.specs.Sketch.{Sketch}
use Rattle.drawing_grammar.specs.Written.{Written, spelling, values}
use Rattle.drawing_grammar.specs.Draws.{whole}
use Rattle.drawing_grammar.specs.Names.{names_from, AreGood}
use Rattle.drawing_grammar.proofs.Drawable as drawn
use Rattle.drawing_grammar.proofs.Drawable.{IsDrawn, IsDrawnRange}
use Rattle.drawing_grammar.proofs.ProperTrees.{IsItemOf, IsTermOf, IsConnectionOf, IsUseOf, IsWireOf, IsStatementOf, AreStatementsOf, IsOtherwiseOf, IsMacroOf, IsEntryOf, IsCaseOf, IsSketchOf}
use Rattle.drawing_grammar.proofs.Proper.{AreProper, values_of}
use Rattle.drawing_grammar.proofs.ProperTokens.{tokens_proper}
use Rattle.drawing_grammar.proofs.Judging.{passed, passed_pair}
use Rattle.drawing_grammar.proofs.SpelledLists.{all_map}

-- ---- what a text stands for

good_name : (h : Header) (n : SignalName) → IsGoodName h n → IsName n
good_name h n good = good.is_name

pub sketch_proper : (v : Edition) (h : Header) (text : List ℕ) (tokens : List lex.Token) (w : Written (whole v)) → AreTokens text tokens →
    spelling w ≡ lexemes text tokens → AreGood h (names_from false (lexemes text tokens)) → IsSketchOf (λ n. IsGoodName h n) v (values w).0
sketch_proper v h text tokens w are spelled good =
    let G : SignalName → Type 0 = λ n. IsGoodName h n in
    (values_of G (good_name h) w (subst (AreProper G) (sym spelled) (tokens_proper h text tokens are good))).0

-- ---- drawn

module _ (G : SignalName → Type 0) (k : (n : SignalName) → G n → IsName n) (v : Edition) where
  item_drawn : (i : tree.Item) → IsItemOf G i → drawn.IsDrawnItem i
  item_drawn tree.Zero a = tt
  item_drawn tree.One a = tt
  item_drawn (tree.Named name range) a = (k name a.0, a.1)

  connection_drawn : (c : tree.Connection) → IsConnectionOf G c → drawn.IsDrawnConnection c
  connection_drawn c a = record { some = a.some; terms = all_map (IsTermOf G) drawn.IsDrawnTerm (λ t h. item_drawn t.item h) c.terms a.terms }

  use_drawn : (u : tree.UseStatement) → IsUseOf G u → drawn.IsDrawnUse u
  use_drawn u a = record {
    label = a.label;
    kind = a.kind;
    delays = a.delays;
    beside = a.beside;
    params = a.params;
    ins = all_map (IsConnectionOf G)
        drawn.IsDrawnConnection connection_drawn u.ins a.ins;
    outs = all_map (IsConnectionOf G) drawn.IsDrawnConnection connection_drawn u.outs a.outs;
  }

  wire_drawn : (w : tree.WireStatement) → IsWireOf G w → drawn.IsDrawnWire w
  wire_drawn w a = record { name = k w.name a.name; range = a.range; min = a.min; max = a.max }

  mutual
    statement_drawn : (s : tree.Statement) → IsStatementOf G v s → drawn.IsDrawnStatement v s
    statement_drawn (tree.Use u) a = use_drawn u a
    statement_drawn (tree.Wire w) a = wire_drawn w a
    statement_drawn (tree.If test ss other place) a = (a.0, statements_drawn ss a.1, otherwise_drawn other a.2)
    statement_drawn (tree.For var first last ss place) a = (a.0, a.1, a.2, a.3, statements_drawn ss a.4)

    statements_drawn : (ss : tree.Statements) → AreStatementsOf G v ss → drawn.AreDrawn v ss
    statements_drawn tree.nil a = tt
    statements_drawn (tree.cons s ss) a = (statement_drawn s a.0, statements_drawn ss a.1)

    otherwise_drawn : (o : tree.Otherwise) → IsOtherwiseOf G v o → drawn.IsDrawnOtherwise v o
    otherwise_drawn tree.no_else a = tt
    otherwise_drawn (tree.else_ ss) a = statements_drawn ss a

  macro_drawn : (m : tree.Macro) → IsMacroOf G v m → drawn.IsDrawnMacro v m
  macro_drawn m a = record { name = a.name; params = a.params; ins = a.ins; outs = a.outs; body = statements_drawn m.body a.body }

  entry_drawn : (e : CaseEntry) → IsEntryOf G e → drawn.IsDrawnEntry e
  entry_drawn e a = record { name = k e.name a.name; bit = a.bit; value = a.value }

  case_drawn : (c : CaseStmt) → IsCaseOf G c → drawn.IsDrawnCase c
  case_drawn c a = record { some = a.some; entries = all_map (IsEntryOf G) drawn.IsDrawnEntry entry_drawn c.entries a.entries }

  pub macros_drawn : (ms : List tree.Macro) → AllByRecursion (IsMacroOf G v) ms → AllByRecursion (drawn.IsDrawnMacro v) ms
  macros_drawn ms a = all_map (IsMacroOf G v) (drawn.IsDrawnMacro v) macro_drawn ms a

  pub body_drawn : (ss : tree.Statements) → AreStatementsOf G v ss → drawn.AreDrawn v ss
  body_drawn ss a = statements_drawn ss a

  pub cases_drawn : (cs : List CaseStmt) → AllByRecursion (IsCaseOf G) cs → AllByRecursion drawn.IsDrawnCase cs
  cases_drawn cs a = all_map (IsCaseOf G) drawn.IsDrawnCase case_drawn cs a

-- ---- well formed

all_of : {A : Type 0} (P Q : A → Type 0) → ((x : A) → P x → Q x) → (xs : List A) → AllByRecursion P xs → All Q xs
all_of P Q f xs a = All-from_recursion Q xs (all_map P Q f xs a)

expression_good : (e : Expression) → IsDrawn e → IsGoodExpression e
expression_good (Number n) a = tt
expression_good (Param name) a = a
expression_good (Negate operand) a = expression_good operand a
expression_good (Binary op left right) a = (expression_good left a.0, expression_good right a.1)

last_good : (o : Option Expression) → IfSome o IsDrawn → IfSome o IsGoodExpression
last_good None a = tt
last_good (Some e) a = expression_good e a

range_good : (r : tree.Range) → IsDrawnRange r → IsGoodRange r
range_good r a = record { first = expression_good r.first a.first; last = last_good r.last a.last }

some_range_good : (o : Option tree.Range) → IfSome o IsDrawnRange → IfSome o IsGoodRange
some_range_good None a = tt
some_range_good (Some r) a = range_good r a

fall_good : (o : Option (Expression × Expression)) → IfSome o (λ d. IsDrawn d.0 × IsDrawn d.1) → IfSome o (λ d. IsGoodExpression d.0 × IsGoodExpression d.1)
fall_good None a = tt
fall_good (Some d) a = (expression_good d.0 a.0, expression_good d.1 a.1)

delays_good : (delay fall : Option (Expression × Expression)) → tree.EachDelay IsDrawn delay fall → tree.EachDelay IsGoodExpression delay fall
delays_good None fall a = tt
delays_good (Some d) fall a = ((expression_good d.0 a.0.0, expression_good d.1 a.0.1), fall_good fall a.1)

assignment_good : (x : tree.Assignment) → drawn.IsDrawnAssignment x → well.IsGoodAssignment x
assignment_good x a = record { name = a.name; value = expression_good x.value a.value }

pub consts_good : (cs : List tree.Assignment) → AllByRecursion drawn.IsDrawnAssignment cs → All well.IsGoodAssignment cs
consts_good cs a = all_of drawn.IsDrawnAssignment well.IsGoodAssignment assignment_good cs a

formal_good : (f : tree.Formal) → drawn.IsDrawnFormal f → well.IsGoodFormal f
formal_good f a = record { base = a.base; range = some_range_good f.range a.range }

module _ (h : Header) (v : Edition) where
  abbrev Good : SignalName → Type 0
  Good n = IsGoodName h n

  item_good : (i : tree.Item) → IsItemOf Good i → well.IsGoodItem h i
  item_good tree.Zero a = tt
  item_good tree.One a = tt
  item_good (tree.Named name range) a = (a.0, some_range_good range a.1)

  connection_good : (c : tree.Connection) → IsConnectionOf Good c → well.IsGoodConnection h c
  connection_good c a = all_of (IsTermOf Good) (λ t. well.IsGoodItem h t.item) (λ t g. item_good t.item g) c.terms a.terms

  use_good : (u : tree.UseStatement) → IsUseOf Good u → well.IsGoodUse h u
  use_good u a = record {
    label = a.label;
    kind = a.kind;
    delays = delays_good u.delay u.fall a.delays;
    params = all_of drawn.IsDrawnAssignment well.IsGoodAssignment assignment_good u.params a.params;
    ins = all_of (IsConnectionOf Good) (λ c. well.IsGoodConnection h c) connection_good u.ins a.ins;
    outs = all_of (IsConnectionOf Good) (λ c. well.IsGoodConnection h c) connection_good u.outs a.outs;
  }

  wire_good : (w : tree.WireStatement) → IsWireOf Good w → well.IsGoodWire h w
  wire_good w a = record { name = a.name; range = some_range_good w.range a.range; min = expression_good w.min a.min; max = expression_good w.max a.max }

  mutual
    statement_good : (s : tree.Statement) → IsStatementOf Good v s → well.IsGoodStatement h s
    statement_good (tree.Use u) a = use_good u a
    statement_good (tree.Wire w) a = wire_good w a
    statement_good (tree.If test ss other place) a = (expression_good test a.0, statements_good ss a.1, otherwise_good other a.2)
    statement_good (tree.For var first last ss place) a =
        (a.1, expression_good first a.2, expression_good last a.3, statements_good ss a.4)

    statements_good : (ss : tree.Statements) → AreStatementsOf Good v ss → well.AreGoodStatements h ss
    statements_good tree.nil a = tt
    statements_good (tree.cons s ss) a = (statement_good s a.0, statements_good ss a.1)

    otherwise_good : (o : tree.Otherwise) → IsOtherwiseOf Good v o → well.IsGoodOtherwise h o
    otherwise_good tree.no_else a = tt
    otherwise_good (tree.else_ ss) a = statements_good ss a

  pub body_good : (ss : tree.Statements) → AreStatementsOf Good v ss → well.AreDifferent (well.labels ss) → well.IsGoodBody h ss
  body_good ss a d = record { statements = statements_good ss a; labels = d }

  pub macro_good : (m : tree.Macro) → IsMacroOf Good v m → well.AreDifferent (map (λ p. p.name) m.params) →
      well.AreDifferent (map (λ f. f.base) (m.ins ++ m.outs)) → well.AreDifferent (well.labels m.body) → well.IsGoodMacro h m
  macro_good m a params formals labels = record {
    name = a.name;
    params = all_of drawn.IsDrawnAssignment well.IsGoodAssignment assignment_good m.params a.params;
    ins = all_of drawn.IsDrawnFormal well.IsGoodFormal formal_good m.ins a.ins;
    outs = all_of drawn.IsDrawnFormal well.IsGoodFormal formal_good m.outs a.outs;
    body = body_good m.body a.body labels;
    different_params = params;
    different_formals = formals;
  }

  pub cases_good : (cs : List CaseStmt) → AllByRecursion (IsCaseOf Good) cs → All (λ c. well.IsGoodCase h c) cs
  cases_good cs a = all_of (IsCaseOf Good) (λ c. well.IsGoodCase h c) (λ c g. all_of (IsEntryOf Good) (λ e. well.IsGoodEntry h e) (λ e f. f.name) c.entries g.entries) cs a

-- ---- the header

one_or_two : (n : ℕ) → 1 ≤ n → n ≤ 2 → (n ≡ 1) ⊎ (n ≡ 2)
one_or_two zero a b = absurd (omega arith)
one_or_two (suc zero) a b = inl refl
one_or_two (suc (suc zero)) a b = inr refl
one_or_two (suc (suc (suc n))) a b = absurd (omega arith)

version_known : (n : ℤ) → is_version n ≡ true → (natural n ≡ 1) ⊎ (natural n ≡ 2)
version_known (pos n) e =
    let k = and_parts (int_le (pos 1) (pos n)) (int_le (pos n) (pos 2)) e in
    one_or_two n (leb-true 1 n k.0) (leb-true n 2 k.1)
version_known (negsuc n) e = absurd cc

-- The version that a text names is the one of its drawing.
edition_natural : (n : ℤ) → is_version n ≡ true → edition_by (pos (natural n)) ≡ edition_by n
edition_natural (pos n) e = refl
edition_natural (negsuc n) e = absurd cc

-- a header that is not refused is the one that its numbers give
pub judged_ok : (w : WrittenHeader) (h : Header) → judged w ≡ Ok h →
    (header_of w ≡ h) × ((natural w.version ≡ 1) ⊎ (natural w.version ≡ 2)) × (edition_by (pos (natural w.version)) ≡ edition_by w.version)
judged_ok w h e =
    let first = passed (is_version w.version) w.place _ h e in
    let second = passed (is_clock w.clock.first w.clock.second) w.clock.place _ h first.1 in
    let third = (passed_pair is_bounds w.wire _ h second.1).1 in
    let fourth = (passed_pair is_skew w.pskew _ h third).1 in
    let last = (passed_pair is_skew w.cskew _ h fourth).1 in
    let same : header_of w ≡ h = cc in
    (same, version_known w.version first.0, edition_natural w.version first.0)

-- ---- drawn by canonical texts

pub sketch_drawn : (h : Header) (s : Sketch) → IsHeader h → judged s.header ≡ Ok h →
    IsSketchOf (λ n. IsGoodName h n) (edition_by s.header.version) s → drawn.IsDrawnDrawing (drawing_of_sketch s)
sketch_drawn h s is_header e b =
    let G : SignalName → Type 0 = λ n. IsGoodName h n in
    let said = judged_ok s.header h e in
    let v = drawn.written_in (drawing_of_sketch s) in
    let P : Edition → Type 0 = λ x. IsSketchOf G x s in
    let a : IsSketchOf G v s = subst P (sym said.2) b in
    record {
      version = said.1;
      consts = a.consts.constants;
      no_consts = a.no_consts;
      header = subst IsHeader (sym said.0) is_header;
      name = a.name;
      macros = macros_drawn G (good_name h) v s.macros.macros a.macros.macros;
      body = body_drawn G (good_name h) v s.body a.body;
      cases = cases_drawn G (good_name h) v s.cases a.cases;
    }
