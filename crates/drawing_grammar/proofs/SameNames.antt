-- The names of a canonical text are as good as those of the drawing that it is made from.
use Rattle.std.proofs.Common.{◌≡◌, ℕ, Bool, true, false, List, [], ◌∷◌, ◌++◌, map, Option, Some, None, refl, sym, ap, ◌∙◌, subst}
use Rattle.std.specs.Prelude.{codes, IfSome}
use Rattle.std.specs.List.{AllByRecursion, flat_map, join_by}
use Rattle.std.proofs.lemmas.List.{append-nil}
use Rattle.scald_base.specs.Time.{Header}
use Rattle.scald_base.specs.Fitting.{Fits}
use Rattle.drawing_tree.specs.declared.expr.Op.{Op}
use Rattle.drawing_tree.specs.declared.expr.Op.TheVariants as op
use Rattle.drawing_tree.specs.Expression.{Expression}
use Rattle.drawing_tree.specs.Expression as e
use Rattle.assertion_syntax.specs.declared.name.SignalName.{SignalName}
use Rattle.assertion_syntax.specs.Name.{IsBase, IsTextOf, name_text}
use Rattle.drawing_tree.specs.declared.drawing.CaseEntry.{CaseEntry}
use Rattle.drawing_tree.specs.declared.drawing.CaseStmt.{CaseStmt}
use Rattle.drawing_tree.specs.Tree as tree
use Rattle.drawing_tree.specs.ExpressionText.{left_enclosed, right_enclosed, minus_enclosed, is_comparison}
use Rattle.drawing_tree.specs.WellFormed.{IsFreeWord, IsGoodName}
use Rattle.drawing_grammar.specs.declared.edition.Edition.{Edition}
use Rattle.drawing_grammar.specs.declared.terminal.Terminal.{Terminal}
use Rattle.drawing_grammar.specs.declared.terminal.Terminal.TheVariants as terminal
use Rattle.drawing_grammar.specs.Lexeme as lexeme
use Rattle.drawing_grammar.specs.Lexeme.{Lexeme, terminal_by, symbol_terminal, word_terminal}
use Rattle.drawing_grammar.specs.Names.{naming, names_at, head_behind, names_from, MayStand, IsGood, AreGood}
use Rattle.drawing_grammar.specs.Sketch.{unquoted}
use Rattle.drawing_grammar.proofs.Cutting.{Bare}
use Rattle.drawing_grammar.proofs.Leaves as leaf
use Rattle.drawing_grammar.proofs.CanonicalTokens.{word, for_tokens, constant_tokens, number, semicolon, colon, comma, ampersand, less, greater, open_parenthesis, close_parenthesis, open_bracket, close_bracket, open_brace, close_brace, arrow, equals, end_of_text, enclosed_tokens, op_tokens, condition_tokens, sum_tokens, bounds_tokens, last_tokens, range_tokens, signal_tokens, item_tokens, minus_tokens, term_tokens, hold_tokens, connection_tokens, listed_tokens, inputs_tokens, outputs_tokens, assignment_tokens, params_tokens, fall_tokens, delay_tokens, use_tokens, wire_tokens, end_tokens, statement_tokens, statements_tokens, else_tokens, body_tokens, pair_tokens, header_tokens, formal_tokens, entry_tokens, case_tokens}
use Rattle.drawing_grammar.proofs.Drawable.{IsDrawn, IsDrawnRange, IsDrawnAssignment, IsDrawnFormal}
use Rattle.drawing_grammar.proofs.Matching.{bare, free_word}
use Rattle.drawing_grammar.proofs.GoodNames.{good_both}
use Rattle.drawing_grammar.proofs.PhraseConnection.{unquoted_again}
use Rattle.drawing_grammar.proofs.PhraseFormals.{plain_name}
use Rattle.drawing_grammar.proofs.ProperTrees.{IsItemOf, IsTermOf, IsConnectionOf, IsUseOf, IsWireOf, IsStatementOf, AreStatementsOf, IsOtherwiseOf, IsMacroOf, IsEntryOf, IsCaseOf}

-- ---- tokens that neither begin nor end a head, and whose names are good

pub record IsGoodText (h : Header) (of_formal : Bool) (text : List ℕ) : Type 0 where
  pub name : SignalName
  pub spelled : IsTextOf name text
  pub plain : MayStand of_formal name
  pub fits : Fits h name.spec

pub record IsCalm (h : Header) (in_head : Bool) (x : Bare) : Type 0 where
  pub stays : head_behind in_head (terminal_by x.kind x.text) ≡ in_head
  pub named : terminal_by x.kind x.text ≡ terminal.Name → IsGoodText h in_head (unquoted x.text)

abbrev pub AreCalm : Header → Bool → List Bare → Type 0
AreCalm h in_head xs = AllByRecursion (IsCalm h in_head) xs

good_at : (h : Header) (in_head : Bool) (t : Lexeme) (l : Terminal) → (l ≡ terminal.Name → IsGood h (naming in_head t)) → AreGood h (names_at in_head l t)
good_at h in_head t terminal.Name f = (f refl, tt)
good_at h in_head t _ f = tt

-- Behind calm tokens the names go on as before.
pub calm_names : (h : Header) (in_head : Bool) (ts us : List Lexeme) → AreCalm h in_head (map bare ts) → AreGood h (names_from in_head us) → AreGood h (names_from in_head (ts ++ us))
unfolding names_from
calm_names h in_head [] us calm good = good
calm_names h in_head (t ∷ ts) us calm good =
    let F : Bool → Type 0 = λ b. AreGood h (names_from b (ts ++ us)) in
    good_both h (names_at in_head (lexeme.terminal t) t) (names_from (head_behind in_head (lexeme.terminal t)) (ts ++ us))
    (good_at h in_head t (lexeme.terminal t) (λ k. let g = calm.0.named k in record { name = g.name; spelled = g.spelled; plain = g.plain; fits = g.fits }))
    (subst F (sym calm.0.stays) (calm_names h in_head ts us calm.1 good))

append : {A : Type 0} (P : A → Type 0) (xs ys : List A) → AllByRecursion P xs → AllByRecursion P ys → AllByRecursion P (xs ++ ys)
append P [] ys p q = q
append P (x ∷ xs) ys p q = (p.0, append P xs ys p.1 q)

-- ---- single tokens

abbrev is_name : Terminal → Bool
is_name terminal.Name = true
is_name _ = false

module _ (h : Header) where
  other : (b : Bool) (x : Bare) (l : Terminal) → terminal_by x.kind x.text ≡ l → head_behind b l ≡ b → is_name l ≡ false → IsCalm h b x
  other b x l k stays nameless =
      record {
        stays = ap (λ (m : Terminal). head_behind b m) k ∙ stays;
        named = λ j. absurd (let found : is_name l ≡ true = ap is_name (sym k ∙ j) in cc);
      }

  free : (b : Bool) (text : List ℕ) → IsFreeWord text → IsCalm h b (leaf.word text)
  free b text is = other b (leaf.word text) terminal.Word (free_word text is.is_free) refl refl

  of_number : (b : Bool) (n : ℕ) → IsCalm h b (leaf.number n)
  of_number b n = other b (leaf.number n) terminal.Number refl refl refl

  good_name : (n : SignalName) → IsGoodName h n → IsGoodText h false (name_text n)
  good_name n is = record { name = n; spelled = record { is_name = is.is_name; spelled = refl }; plain = λ k. absurd cc; fits = is.fits }

  of_name : (n : SignalName) → IsGoodName h n → IsCalm h false (leaf.name (name_text n))
  of_name n is = record { stays = refl; named = λ k. subst (IsGoodText h false) (sym (unquoted_again (name_text n))) (good_name n is) }

  formal_text : (base : List ℕ) → IsBase base → IsGoodText h true base
  formal_text base is = record {
    name = plain_name base;
    spelled = record { is_name = record { base = is; assertion = tt }; spelled = sym (append-nil base) };
    plain = λ k. record { local = refl; bare = refl };
    fits = record { intervals = tt; edges = λ k. k };
  }

  of_formal : (base : List ℕ) → IsBase base → IsCalm h true (leaf.name base)
  of_formal base is = record { stays = refl; named = λ k. subst (IsGoodText h true) (sym (unquoted_again base)) (formal_text base is) }

  -- lists
  joined : (b : Bool) (xs ys : List Bare) → AreCalm h b xs → AreCalm h b ys → AreCalm h b (xs ++ ys)
  joined b xs ys p q = append (IsCalm h b) xs ys p q

  one_by : {A : Type 0} (b : Bool) (P : A → Type 0) (tokens : A → List Bare) → ((x : A) → P x → AreCalm h b (tokens x)) → (xs : List A) → AllByRecursion P xs → AreCalm h b (flat_map tokens xs)
  one_by b P tokens f [] ps = tt
  one_by b P tokens f (x ∷ xs) ps = joined b (tokens x) (flat_map tokens xs) (f x ps.0) (one_by b P tokens f xs ps.1)

  between : {A : Type 0} (b : Bool) (P : A → Type 0) (tokens : A → List Bare) (mark : List Bare) → AreCalm h b mark →
      ((x : A) → P x → AreCalm h b (tokens x)) → (xs : List A) → AllByRecursion P xs → AreCalm h b (join_by tokens mark xs)
  between b P tokens mark m f [] ps = tt
  between b P tokens mark m f (x ∷ xs) ps = joined b (tokens x) (flat_map (λ y. mark ++ tokens y) xs)
      (f x ps.0) (one_by b P (λ y. mark ++ tokens y) (λ y p. joined b mark (tokens y) m (f y p)) xs ps.1)

  -- ---- expressions

  enclosed : (b asked : Bool) (xs : List Bare) → AreCalm h b xs → AreCalm h b (enclosed_tokens asked xs)
  unfolding symbol_terminal
  enclosed b true xs p = joined b (open_parenthesis ++ xs) close_parenthesis (other b _ terminal.OpenParenthesis refl refl refl, p) (other b _ terminal.CloseParenthesis refl refl refl, tt)
  enclosed b false xs p = p

  operator : (b : Bool) (o : Op) → AreCalm h b (op_tokens o)
  unfolding symbol_terminal
  operator b op.Add = (other b _ terminal.Plus refl refl refl, tt)
  operator b op.Sub = (other b _ terminal.Minus refl refl refl, tt)
  operator b op.Mul = (other b _ terminal.Star refl refl refl, tt)
  operator b op.Div = (other b _ terminal.Slash refl refl refl, tt)
  operator b op.Eq = (other b _ terminal.Equals refl refl refl, tt)
  operator b op.Ne = (other b _ terminal.Exclamation refl refl refl, (other b _ terminal.Equals refl refl refl, tt))
  operator b op.Lt = (other b _ terminal.Less refl refl refl, tt)
  operator b op.Le = (other b _ terminal.Less refl refl refl, (other b _ terminal.Equals refl refl refl, tt))
  operator b op.Gt = (other b _ terminal.Greater refl refl refl, tt)
  operator b op.Ge = (other b _ terminal.Greater refl refl refl, (other b _ terminal.Equals refl refl refl, tt))

  condition : (b : Bool) (x : Expression) → IsDrawn x → AreCalm h b (condition_tokens x)
  unfolding condition_tokens symbol_terminal
  condition b (e.Number n) p = (other b _ terminal.Number refl refl refl, tt)
  condition b (e.Param text) p = (free b text p, tt)
  condition b (e.Negate x) p = (other b _ terminal.Minus refl refl refl, enclosed b (minus_enclosed x) (condition_tokens x) (condition b x p))
  condition b (e.Binary o x y) p =
      joined b (enclosed_tokens (left_enclosed o x) (condition_tokens x) ++ op_tokens o) (enclosed_tokens (right_enclosed o y) (condition_tokens y))
      (joined b (enclosed_tokens (left_enclosed o x) (condition_tokens x)) (op_tokens o) (enclosed b (left_enclosed o x) (condition_tokens x) (condition b x p.0)) (operator b o))
      (enclosed b (right_enclosed o y) (condition_tokens y) (condition b y p.1))

  sum : (b : Bool) (x : Expression) → IsDrawn x → AreCalm h b (sum_tokens x)
  sum b x p = enclosed b (is_comparison x) (condition_tokens x) (condition b x p)

  bounds : (b : Bool) (x y : Expression) → IsDrawn x → IsDrawn y → AreCalm h b (bounds_tokens x y)
  unfolding symbol_terminal
  bounds b x y p q = joined b (sum_tokens x ++ colon) (sum_tokens y) (joined b (sum_tokens x) colon (sum b x p) (other b _ terminal.Colon refl refl refl, tt)) (sum b y q)

  last : (b : Bool) (o : Option Expression) → IfSome o IsDrawn → AreCalm h b (last_tokens o)
  unfolding symbol_terminal
  last b None p = tt
  last b (Some x) p = (other b _ terminal.Colon refl refl refl, sum b x p)

  range : (b : Bool) (o : Option tree.Range) → IfSome o IsDrawnRange → AreCalm h b (range_tokens o)
  unfolding symbol_terminal
  range b None p = tt
  range b (Some r) p =
      joined b (less ++ sum_tokens r.first ++ last_tokens r.last) greater
      (joined b (less ++ sum_tokens r.first) (last_tokens r.last) (other b _ terminal.Less refl refl refl, sum b r.first p.first) (last b r.last p.last))
      (other b _ terminal.Greater refl refl refl, tt)

  assignment : (b : Bool) (a : tree.Assignment) → IsDrawnAssignment a → AreCalm h b (assignment_tokens a)
  unfolding symbol_terminal
  assignment b a p = (free b a.name p.name, (other b _ terminal.Equals refl refl refl, sum b a.value p.value))

  commas : (b : Bool) → AreCalm h b comma
  unfolding symbol_terminal
  commas b = (other b _ terminal.Comma refl refl refl, tt)

  params : (b : Bool) (ps : List tree.Assignment) → AllByRecursion IsDrawnAssignment ps → AreCalm h b (params_tokens ps)
  unfolding symbol_terminal
  params b [] all = tt
  params b (p ∷ ps) all =
      joined b (open_brace ++ listed_tokens assignment_tokens (p ∷ ps)) close_brace
      (other b _ terminal.OpenBrace refl refl refl, between b IsDrawnAssignment assignment_tokens comma (commas b) (assignment b) (p ∷ ps) all)
      (other b _ terminal.CloseBrace refl refl refl, tt)

  inputs : {A : Type 0} (b : Bool) (P : A → Type 0) (tokens : A → List Bare) → ((x : A) → P x → AreCalm h b (tokens x)) → (xs : List A) → AllByRecursion P xs → AreCalm h b (inputs_tokens tokens xs)
  unfolding symbol_terminal
  inputs b P tokens f xs all =
      joined b (open_parenthesis ++ listed_tokens tokens xs) close_parenthesis
      (other b _ terminal.OpenParenthesis refl refl refl, between b P tokens comma (commas b) f xs all)
      (other b _ terminal.CloseParenthesis refl refl refl, tt)

  outputs : {A : Type 0} (b : Bool) (P : A → Type 0) (tokens : A → List Bare) → ((x : A) → P x → AreCalm h b (tokens x)) → (xs : List A) → AllByRecursion P xs → AreCalm h b (outputs_tokens tokens xs)
  unfolding symbol_terminal
  outputs b P tokens f [] all = tt
  outputs b P tokens f (x ∷ xs) all =
      joined b ((arrow ++ open_parenthesis) ++ listed_tokens tokens (x ∷ xs)) close_parenthesis
      (other b _ terminal.Arrow refl refl refl, (other b _ terminal.OpenParenthesis refl refl refl, between b P tokens comma (commas b) f (x ∷ xs) all))
      (other b _ terminal.CloseParenthesis refl refl refl, tt)

  -- ---- statements

  abbrev Good : SignalName → Type 0
  Good n = IsGoodName h n

  signal : (n : SignalName) (o : Option tree.Range) → Good n → IfSome o IsDrawnRange → AreCalm h false (signal_tokens n o)
  signal n o p q = (of_name n p, range false o q)

  item : (i : tree.Item) → IsItemOf Good i → AreCalm h false (item_tokens i)
  unfolding word_terminal
  item tree.Zero p = (other false _ terminal.Zero refl refl refl, tt)
  item tree.One p = (other false _ terminal.One refl refl refl, tt)
  item (tree.Named n o) p = signal n o p.0 p.1

  term_of : (m : Bool) (i : tree.Item) → IsItemOf Good i → AreCalm h false (minus_tokens m ++ item_tokens i)
  unfolding symbol_terminal
  term_of true i p = (other false _ terminal.Minus refl refl refl, item i p)
  term_of false i p = item i p

  term : (t : tree.Term) → IsTermOf Good t → AreCalm h false (term_tokens t)
  term t p = term_of t.minus t.item p

  hold : (b : Bool) → AreCalm h false (hold_tokens b)
  unfolding symbol_terminal word_terminal
  hold true = (other false _ terminal.Exclamation refl refl refl, (other false _ terminal.Word refl refl refl, tt))
  hold false = tt

  connection : (c : tree.Connection) → IsConnectionOf Good c → AreCalm h false (connection_tokens c)
  unfolding symbol_terminal
  connection c p =
      joined false (join_by term_tokens ampersand c.terms) (hold_tokens c.hold)
      (between false (IsTermOf Good) term_tokens ampersand (other false _ terminal.Ampersand refl refl refl, tt) term c.terms p.terms) (hold c.hold)

  fall : (o : Option (Expression × Expression)) → IfSome o (λ f. IsDrawn f.0 × IsDrawn f.1) → AreCalm h false (fall_tokens o)
  unfolding symbol_terminal
  fall None p = tt
  fall (Some f) p = (other false _ terminal.Comma refl refl refl, bounds false f.0 f.1 p.0 p.1)

  delay : (o f : Option (Expression × Expression)) → tree.EachDelay IsDrawn o f → AreCalm h false (delay_tokens o f)
  unfolding symbol_terminal
  delay None f p = tt
  delay (Some d) f p =
      joined false (open_bracket ++ bounds_tokens d.0 d.1 ++ fall_tokens f) close_bracket
      (joined false (open_bracket ++ bounds_tokens d.0 d.1) (fall_tokens f) (other false _ terminal.OpenBracket refl refl refl, bounds false d.0 d.1 p.0.0 p.0.1) (fall f p.1))
      (other false _ terminal.CloseBracket refl refl refl, tt)

  stop : AreCalm h false semicolon
  unfolding symbol_terminal
  stop = (other false _ terminal.Semicolon refl refl refl, tt)

  use_ : (u : tree.UseStatement) → IsUseOf Good u → AreCalm h false (use_tokens u)
  unfolding symbol_terminal
  use_ u p =
      let first = word u.label ++ colon ++ word u.kind in
      let ins = inputs_tokens connection_tokens u.ins in
      let outs = outputs_tokens connection_tokens u.outs in
      let d = delay_tokens u.delay u.fall in
      let ps = params_tokens u.params in
      joined false (first ++ d ++ ps ++ ins ++ outs) semicolon
      (joined false (first ++ d ++ ps ++ ins) outs
      (joined false (first ++ d ++ ps) ins
      (joined false (first ++ d) ps
      (joined false first d (free false u.label p.label, (other false _ terminal.Colon refl refl refl, (free false u.kind p.kind, tt))) (delay u.delay u.fall p.delays))
      (params false u.params p.params))
      (inputs false (IsConnectionOf Good) connection_tokens connection u.ins p.ins))
      (outputs false (IsConnectionOf Good) connection_tokens connection u.outs p.outs)) stop

  wire : (w : tree.WireStatement) → IsWireOf Good w → AreCalm h false (wire_tokens w)
  unfolding word_terminal
  wire w p =
      joined false (word (codes "WIRE") ++ signal_tokens w.name w.range ++ bounds_tokens w.min w.max) semicolon
      (joined false (word (codes "WIRE") ++ signal_tokens w.name w.range) (bounds_tokens w.min w.max)
      (other false _ terminal.Wire refl refl refl, signal w.name w.range p.name p.range) (bounds false w.min w.max p.min p.max)) stop

  ends : AreCalm h false end_tokens
  unfolding word_terminal
  ends = (other false _ terminal.End refl refl refl, stop)

  -- the first line of a FOR
  for_head : (var : List ℕ) (first last : Expression) → IsFreeWord var → IsDrawn first → IsDrawn last → AreCalm h false (for_tokens var first last)
  unfolding word_terminal symbol_terminal
  for_head var x y named low high =
      let begin = word (codes "FOR") ++ word var ++ equals in
      joined false (begin ++ sum_tokens x ++ word (codes "TO") ++ sum_tokens y) (word (codes "DO"))
      (joined false (begin ++ sum_tokens x ++ word (codes "TO")) (sum_tokens y)
      (joined false (begin ++ sum_tokens x) (word (codes "TO"))
      (joined false begin (sum_tokens x) (other false _ terminal.Word refl refl refl, (free false var named, (other false _ terminal.Equals refl refl refl, tt)))
      (sum false x low)) (other false _ terminal.Word refl refl refl, tt)) (sum false y high)) (other false _ terminal.Word refl refl refl, tt)

  mutual
    unfolding statement_tokens statements_tokens else_tokens word_terminal

    statement : (v : Edition) (s : tree.Statement) → IsStatementOf Good v s → AreCalm h false (statement_tokens s)
    statement v (tree.Use u) p = use_ u p
    statement v (tree.Wire w) p = wire w p
    statement v (tree.If test ss o place) p =
        let first = word (codes "IF") ++ condition_tokens test ++ word (codes "THEN") in
        joined false (first ++ statements_tokens ss ++ else_tokens o) end_tokens
        (joined false (first ++ statements_tokens ss) (else_tokens o)
        (joined false first (statements_tokens ss)
        (joined false (word (codes "IF") ++ condition_tokens test) (word (codes "THEN"))
        (other false _ terminal.If refl refl refl, condition false test p.0) (other false _ terminal.Then refl refl refl, tt))
        (statements v ss p.1)) (otherwise v o p.2)) ends
    statement v (tree.For var first last ss place) p =
        joined false (for_tokens var first last ++ statements_tokens ss) end_tokens
        (joined false (for_tokens var first last) (statements_tokens ss) (for_head var first last p.1 p.2 p.3) (statements v ss p.4)) ends

    statements : (v : Edition) (ss : tree.Statements) → AreStatementsOf Good v ss → AreCalm h false (statements_tokens ss)
    statements v tree.nil p = tt
    statements v (tree.cons s ss) p = joined false (statement_tokens s) (statements_tokens ss) (statement v s p.0) (statements v ss p.1)

    otherwise : (v : Edition) (o : tree.Otherwise) → IsOtherwiseOf Good v o → AreCalm h false (else_tokens o)
    otherwise v tree.no_else p = tt
    otherwise v (tree.else_ ss) p = (other false _ terminal.Else refl refl refl, statements v ss p)

  pub body : (v : Edition) (ss : tree.Statements) → AreStatementsOf Good v ss → AreCalm h false (body_tokens ss)
  body v ss p = joined false (statements_tokens ss) end_tokens (statements v ss p) ends

  -- ---- heads of macros

  formal : (f : tree.Formal) → IsDrawnFormal f → AreCalm h true (formal_tokens f)
  formal f p = (of_formal f.base p.base, range true f.range p.range)

  -- what stands between MACRO and the semicolon
  abbrev pub head_tokens : tree.Macro → List Bare
  head_tokens m = word m.name ++ params_tokens m.params ++ inputs_tokens formal_tokens m.ins ++ outputs_tokens formal_tokens m.outs

  pub head : (v : Edition) (m : tree.Macro) → IsMacroOf Good v m → AreCalm h true (head_tokens m)
  head v m p =
      let ps = params_tokens m.params in
      let ins = inputs_tokens formal_tokens m.ins in
      let outs = outputs_tokens formal_tokens m.outs in
      joined true (word m.name ++ ps ++ ins) outs
      (joined true (word m.name ++ ps) ins
      (joined true (word m.name) ps (free true m.name p.name, tt) (params true m.params p.params))
      (inputs true IsDrawnFormal formal_tokens formal m.ins p.ins))
      (outputs true IsDrawnFormal formal_tokens formal m.outs p.outs)

  -- ---- the header, the constants, the title and the cases

  constant : (c : tree.Assignment) → IsDrawnAssignment c → AreCalm h false (constant_tokens c)
  unfolding word_terminal symbol_terminal
  constant c p =
      joined false (word (codes "CONST") ++ word c.name ++ equals ++ sum_tokens c.value) semicolon
      (other false _ terminal.Word refl refl refl, (free false c.name p.name, (other false _ terminal.Equals refl refl refl, sum false c.value p.value))) stop

  pub constants : (cs : List tree.Assignment) → AllByRecursion IsDrawnAssignment cs → AreCalm h false (flat_map constant_tokens cs)
  constants cs p = one_by false IsDrawnAssignment constant_tokens constant cs p

  pair : (a b : ℕ) → AreCalm h false (pair_tokens a b)
  unfolding symbol_terminal
  pair a b = (of_number false a, (other false _ terminal.Colon refl refl refl, (of_number false b, tt)))

  pub header : (version : ℕ) (x : Header) → AreCalm h false (header_tokens version x)
  unfolding word_terminal
  header version x =
      let scald = word (codes "SCALD") ++ number version ++ semicolon in
      let clock = word (codes "CLOCK") ++ number x.units ++ word (codes "x") ++ number x.ticks ++ semicolon in
      let wires = word (codes "WIRE") ++ pair_tokens x.wire.min x.wire.max ++ semicolon in
      let precision = word (codes "PSKEW") ++ pair_tokens x.pskew.0 x.pskew.1 ++ semicolon in
      let clocks = word (codes "CSKEW") ++ pair_tokens x.cskew.0 x.cskew.1 ++ semicolon in
      joined false (scald ++ clock ++ wires ++ precision) clocks
      (joined false (scald ++ clock ++ wires) precision
      (joined false (scald ++ clock) wires
      (joined false scald clock (other false _ terminal.Scald refl refl refl, (of_number false version, stop))
      (other false _ terminal.Clock refl refl refl, (of_number false x.units, (other false _ terminal.Word refl refl refl, (of_number false x.ticks, stop)))))
      (other false _ terminal.Wire refl refl refl, joined false (pair_tokens x.wire.min x.wire.max) semicolon (pair x.wire.min x.wire.max) stop))
      (other false _ terminal.Pskew refl refl refl, joined false (pair_tokens x.pskew.0 x.pskew.1) semicolon (pair x.pskew.0 x.pskew.1) stop))
      (other false _ terminal.Cskew refl refl refl, joined false (pair_tokens x.cskew.0 x.cskew.1) semicolon (pair x.cskew.0 x.cskew.1) stop)

  pub title : (text : List ℕ) → IsFreeWord text → AreCalm h false (word (codes "DRAWING") ++ word text ++ semicolon)
  unfolding word_terminal
  title text is = (other false _ terminal.Drawing refl refl refl, (free false text is, stop))

  entry : (x : CaseEntry) → IsEntryOf Good x → AreCalm h false (entry_tokens x)
  unfolding symbol_terminal
  entry x p = (
    of_name x.name
        p.name,
    (
      other false _ terminal.Less refl refl refl,
      (
        of_number false
            x.bit,
        (other false _ terminal.Greater refl refl refl, (other false _ terminal.Equals refl refl refl, (of_number false x.value, tt))),
      ),
    ),
  )

  case_ : (c : CaseStmt) → IsCaseOf Good c → AreCalm h false (case_tokens c)
  unfolding word_terminal
  case_ c p = joined false (word (codes "CASE") ++ listed_tokens entry_tokens c.entries) semicolon
      (other false _ terminal.Case refl refl refl, between false (IsEntryOf Good) entry_tokens comma (commas false) entry c.entries p.entries) stop

  pub cases : (cs : List CaseStmt) → AllByRecursion (IsCaseOf Good) cs → AreCalm h false (flat_map case_tokens cs)
  cases cs p = one_by false (IsCaseOf Good) case_tokens case_ cs p

  pub end : AreCalm h false end_of_text
  end = (other false _ terminal.EndOfText refl refl refl, tt)
