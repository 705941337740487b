-- The phrases of canonical statements.
use Rattle.std.proofs.Common.{◌≡◌, ℕ, suc, ◌+◌, ◌≤◌, List, [], ◌∷◌, ◌++◌, refl, sym, ap, subst, ◌∙◌, arith, append_assoc}
use Rattle.std.specs.Prelude.{codes, IfSome, ⊤}
use Rattle.scald_base.specs.declared.refusal.Place.{Place}
use Rattle.drawing_tree.specs.Expression.{Expression}
use Rattle.assertion_syntax.specs.Name.{IsName, name_text}
use Rattle.drawing_tree.specs.Tree as tree
use Rattle.drawing_tree.specs.WellFormed.{IsFreeWord}
use Rattle.drawing_grammar.specs.Nesting.{nesting, operators}
use Rattle.drawing_tree.specs.Places.{unplaced_wire, unplaced_statement, unplaced_statements, unplaced_otherwise}
use Rattle.drawing_grammar.specs.declared.terminal.Terminal.TheVariants.{Name, Word, Colon, Semicolon, Equals, Then, End}
use Rattle.drawing_grammar.specs.declared.terminal.Keyword.TheVariants.{To, Do}
use Rattle.drawing_grammar.specs.declared.edition.Edition.{Edition}
use Rattle.drawing_grammar.specs.declared.edition.Edition.TheVariants.{Second}
use Rattle.drawing_grammar.specs.Lexeme.{Lexeme, terminal, symbol_terminal, word_terminal}
use Rattle.drawing_grammar.specs.Grammar.{Need, mark, keyword, fresh, part, group, Sum, Expr, Statement, Statements, Otherwise}
use Rattle.drawing_grammar.specs.Grammar as g
use Rattle.drawing_grammar.specs.Sketch.{Values, signal_of}
use Rattle.drawing_grammar.specs.Written.{Written, marked, token, worded, begun, chosen, left_out, grouped, lacking, spelling, values, limit}
use Rattle.drawing_grammar.proofs.Leaves as leaf
use Rattle.drawing_grammar.proofs.CanonicalTokens.{word, name, colon, semicolon, equals, sum_tokens, for_tokens, bounds_tokens, range_tokens, signal_tokens, condition_tokens, wire_tokens, end_tokens, statement_tokens, statements_tokens, else_tokens}
use Rattle.drawing_grammar.proofs.Drawable.{IsDrawn}
use Rattle.drawing_grammar.proofs.Matching.{Are, parts, single, terminal_is, text_is, word_is_free}
use Rattle.drawing_grammar.proofs.PhraseSteps.{Fits, bare_symbol, spelled_one, spelled_two}
use Rattle.drawing_grammar.proofs.PhraseForms.{forms}
use Rattle.drawing_grammar.proofs.PhraseConnection.{IsShort, IsShortRange, own_sum, range_built, signal_again, nothing_spelled}
use Rattle.drawing_grammar.proofs.PhraseUse.{IsShortUse, use_built}

-- ---- conditions

pub record IsShortTest (x : Expression) : Type 0 where
  pub drawn : IsDrawn x
  pub nests : nesting x ≤ limit
  pub few : operators x ≤ limit

pub record OwnTest (x : Expression) (ts : List Lexeme) (rest : List Need) (w : Written rest) : Type 0 where
  pub written : Written (fresh ∷ group Expr 0 ∷ rest)
  pub spelled : spelling written ≡ ts ++ spelling w
  pub stands : (values written).0 ≡ x
  pub others : (values written).1 ≡ values w
  pub fits : ((a : ℕ) → Fits w a) → (a : ℕ) → Fits written a

pub own_test : (x : Expression) → IsShortTest x → (ts : List Lexeme) → Are ts (condition_tokens x) → (rest : List Need) (w : Written rest) → OwnTest x ts rest w
own_test x is ts are rest w =
    let b = (forms x is.drawn).whole 0 ts are rest w in
    let nests = is.nests in
    let few = is.few in
    record { written = begun (grouped b.written); spelled = b.spelled; stands = b.stands; others = b.others; fits = λ f a. b.fits 0 (omega arith) (omega arith) (f (0 + operators x)) }

-- ---- statements within the limits, if n IFs and FORs are open

pub record IsShortWire (w : tree.WireStatement) : Type 0 where
  pub name : IsName w.name
  pub range : IfSome w.range IsShortRange
  pub min : IsShort w.min
  pub max : IsShort w.max

abbrev mutual
  pub IsShortStatement : Edition → ℕ → tree.Statement → Type 0
  IsShortStatement v n (tree.Use u) = IsShortUse u
  IsShortStatement v n (tree.Wire w) = IsShortWire w
  IsShortStatement v n (tree.If test ss other place) = (suc n ≤ limit) × IsShortTest test × AreShort v (suc n) ss × IsShortOtherwise v (suc n) other
  IsShortStatement v n (tree.For var first last ss place) =
      (v ≡ Second) × (suc n ≤ limit) × IsFreeWord var × IsShort first × IsShort last × AreShort v (suc n) ss

  pub AreShort : Edition → ℕ → tree.Statements → Type 0
  AreShort v n tree.nil = ⊤
  AreShort v n (tree.cons s ss) = IsShortStatement v n s × AreShort v n ss

  pub IsShortOtherwise : Edition → ℕ → tree.Otherwise → Type 0
  IsShortOtherwise v n tree.no_else = ⊤
  IsShortOtherwise v n (tree.else_ ss) = AreShort v n ss

pub record StatementBuilt (v : Edition) (s : tree.Statement) (n : ℕ) (ts : List Lexeme) (rest : List Need) (w : Written rest) : Type 0 where
  pub written : Written (part (Statement v) n ∷ rest)
  pub spelled : spelling written ≡ ts ++ spelling w
  pub stands : unplaced_statement (values written).0 ≡ unplaced_statement s
  pub others : (values written).1 ≡ values w
  pub fits : ((a : ℕ) → Fits w a) → (a : ℕ) → Fits written a

pub record StatementsBuilt (v : Edition) (ss : tree.Statements) (n : ℕ) (ts : List Lexeme) (rest : List Need) (w : Written rest) : Type 0 where
  pub written : Written (group (Statements v) n ∷ rest)
  pub spelled : spelling written ≡ ts ++ spelling w
  pub stands : unplaced_statements (values written).0 ≡ unplaced_statements ss
  pub others : (values written).1 ≡ values w
  pub fits : ((a : ℕ) → Fits w a) → (a : ℕ) → Fits written a

pub record OtherwiseBuilt (v : Edition) (other : tree.Otherwise) (n : ℕ) (ts : List Lexeme) (rest : List Need) (w : Written rest) : Type 0 where
  pub written : Written (part (Otherwise v) n ∷ rest)
  pub spelled : spelling written ≡ ts ++ spelling w
  pub stands : unplaced_otherwise (values written).0 ≡ unplaced_otherwise other
  pub others : (values written).1 ≡ values w
  pub fits : ((a : ℕ) → Fits w a) → (a : ℕ) → Fits written a

if_stands : (x y : Expression) (ss us : tree.Statements) (o p : tree.Otherwise) (here there : Place) → y ≡ x →
    unplaced_statements us ≡ unplaced_statements ss → unplaced_otherwise p ≡ unplaced_otherwise o →
    unplaced_statement (tree.If y us p there) ≡ unplaced_statement (tree.If x ss o here)
if_stands x y ss us o p here there a b c = rw (a, b, c) refl

cons_stands : (s v : tree.Statement) (ss vs : tree.Statements) → unplaced_statement v ≡ unplaced_statement s →
    unplaced_statements vs ≡ unplaced_statements ss → unplaced_statements (tree.cons v vs) ≡ unplaced_statements (tree.cons s ss)
cons_stands s v ss vs a b = rw (a, b) refl

if_spelled : (ts z0 ends z1 other z2 inside z3 then_ if_ test end semi : List Lexeme) (t h k s : Lexeme) (rest : List Lexeme) → ts ≡ z0 ++ ends →
    z0 ≡ z1 ++ other → z1 ≡ z2 ++ inside → z2 ≡ z3 ++ then_ → z3 ≡ if_ ++ test →
    ends ≡ end ++ semi → if_ ≡ t ∷ [] → then_ ≡ h ∷ [] → end ≡ k ∷ [] → semi ≡ s ∷ [] →
    t ∷ (test ++ h ∷ (inside ++ (other ++ k ∷ s ∷ rest))) ≡ ts ++ rest
if_spelled ts z0 ends z1 other z2 inside z3 then_ if_ test end semi t h k s rest a b c d e f i j l m =
    rw (a, b, c, d, e, f, i, j, l, m) (ap (λ (us : List Lexeme). t ∷ us) (sym (append_assoc (test ++ h ∷ [] ++ inside ++ other) (k ∷ s ∷ []) rest
    ∙ (append_assoc (test ++ h ∷ [] ++ inside) other (k ∷ s ∷ rest)
    ∙ (append_assoc (test ++ h ∷ []) inside (other ++ k ∷ s ∷ rest)
    ∙ append_assoc test (h ∷ []) (inside ++ (other ++ k ∷ s ∷ rest)))))))

wire_stands : (x v : tree.WireStatement) → v.name ≡ x.name → v.range ≡ x.range → v.min ≡ x.min → v.max ≡ x.max → unplaced_wire v ≡ unplaced_wire x
wire_stands x v a b c d = rw (a, b, c, d) refl

wire_spelled : (ts z0 semi z1 bounds z2 max min colons wire signal n range : List Lexeme) (t m c s : Lexeme) (rest : List Lexeme) → ts ≡ z0 ++ semi →
    z0 ≡ z1 ++ bounds → bounds ≡ z2 ++ max → z2 ≡ min ++ colons → z1 ≡ wire ++ signal →
    signal ≡ n ++ range → wire ≡ t ∷ [] → n ≡ m ∷ [] → colons ≡ c ∷ [] → semi ≡ s ∷ [] →
    t ∷ m ∷ (range ++ (min ++ c ∷ (max ++ s ∷ rest))) ≡ ts ++ rest
wire_spelled ts z0 semi z1 bounds z2 max min colons wire signal n range t m c s rest a b d e f h i j k l =
    rw (a, b, d, e, f, h, i, j, k, l) (ap (λ (us : List Lexeme). t ∷ m ∷ us) (sym (append_assoc (range ++ (min ++ c ∷ [] ++ max)) (s ∷ []) rest
    ∙ (append_assoc range (min ++ c ∷ [] ++ max) (s ∷ rest)
    ∙ ap (λ (us : List Lexeme). range ++ us) (append_assoc (min ++ c ∷ []) max (s ∷ rest) ∙ append_assoc min (c ∷ []) (max ++ s ∷ rest))))))

wire_built : (v : Edition) (x : tree.WireStatement) → IsShortWire x → (n : ℕ) (ts : List Lexeme) → Are ts (wire_tokens x) →
    (rest : List Need) (w : Written rest) → StatementBuilt v (tree.Wire x) n ts rest w
unfolding symbol_terminal word_terminal
wire_built edition x is n ts are rest w =
    let bounds = bounds_tokens x.min x.max in
    let p1 = word (codes "WIRE") ++ signal_tokens x.name x.range in
    let a0 = parts ts (p1 ++ bounds) semicolon are in
    let a1 = parts a0.first p1 bounds a0.front in
    let a2 = parts a1.second (sum_tokens x.min ++ colon) (sum_tokens x.max) a1.back in
    let a3 = parts a2.first (sum_tokens x.min) colon a2.front in
    let a4 = parts a1.first (word (codes "WIRE")) (signal_tokens x.name x.range) a1.front in
    let a5 = parts a4.second (name (name_text x.name)) (range_tokens x.range) a4.back in
    let t = single a4.first (leaf.word (codes "WIRE")) a4.front in
    let m = single a5.first (leaf.name (name_text x.name)) a5.front in
    let c = single a3.second (bare_symbol 58) a3.back in
    let s = single a0.second (bare_symbol 59) a0.back in
    let opens : terminal t.token ≡ g.opening (g.wire {v = edition}) = terminal_is t.token (leaf.word (codes "WIRE")) t.is in
    let names : terminal m.token ≡ Name = terminal_is m.token (leaf.name (name_text x.name)) m.is in
    let colons : terminal c.token ≡ Colon = terminal_is c.token (bare_symbol 58) c.is in
    let ends : terminal s.token ≡ Semicolon = terminal_is s.token (bare_symbol 59) s.is in
    let high = own_sum x.max is.max a2.second a2.back (mark Semicolon ∷ rest) (marked s.token ends w) in
    let low = own_sum x.min is.min a3.first a3.front (mark Colon ∷ fresh ∷ group Sum 0 ∷ mark Semicolon ∷ rest) (marked c.token colons high.written) in
    let range = range_built x.range is.range a5.second a5.back (fresh ∷ group Sum 0 ∷ mark Colon ∷ fresh ∷ group Sum 0 ∷ mark Semicolon ∷ rest) low.written in
    let v = values range.written in
    let e1 : v.1 ≡ values low.written = range.others in
    let e2 : v.1.1 ≡ values high.written = ap (λ (y : Values (fresh ∷ group Sum 0 ∷ mark Colon ∷ fresh ∷ group Sum 0 ∷ mark Semicolon ∷ rest)). y.1) e1 ∙ low.others in
    let found : tree.WireStatement = record { name = signal_of m.token; range = v.0; min = v.1.0; max = v.1.1.0; place = t.token.place } in
    record {
      written = chosen (g.wire {v = edition}) t.token opens (token m.token names range.written);
      spelled = ap (λ (us : List Lexeme). t.token ∷ m.token ∷ us) (range.spelled
          ∙ ap (λ (us : List Lexeme). a5.second ++ us) (low.spelled ∙ ap (λ (us : List Lexeme). a3.first ++ c.token ∷ us) high.spelled))
          ∙ wire_spelled ts a0.first a0.second a1.first a1.second a2.first a2.second a3.first a3.second a4.first a4.second a5.first a5.second
          t.token m.token c.token s.token (spelling w) a0.whole a1.whole a2.whole a3.whole a4.whole a5.whole t.whole m.whole c.whole s.whole;
      stands = ap (λ (y : tree.WireStatement). tree.Wire y) (wire_stands x found (signal_again m.token x.name is.name m.is) range.stands
          (ap (λ (y : Values (fresh ∷ group Sum 0 ∷ mark Colon ∷ fresh ∷ group Sum 0 ∷ mark Semicolon ∷ rest)). y.0) e1 ∙ low.stands)
          (ap (λ (y : Values (fresh ∷ group Sum 0 ∷ mark Semicolon ∷ rest)). y.0) e2 ∙ high.stands));
      others = ap (λ (y : Values (fresh ∷ group Sum 0 ∷ mark Semicolon ∷ rest)). y.1) e2 ∙ high.others;
      fits = λ f a. (omega arith, (omega arith, range.fits (λ b. low.fits (λ d. (omega arith, high.fits (λ i. (omega arith, f i)) d)) b) a));
    }

for_stands : (var name : List ℕ) (x y a b : Expression) (ss us : tree.Statements) (here there : Place) → name ≡ var → y ≡ x → b ≡ a →
    unplaced_statements us ≡ unplaced_statements ss →
    unplaced_statement (tree.For name y b us there) ≡ unplaced_statement (tree.For var x a ss here)
for_stands var name x y a b ss us here there e f h i = rw (e, f, h, i) refl

for_spelled : (ts z0 ends z1 inside h0 dos h1 last h2 tos h3 first h4 eqs fors vars end semi : List Lexeme) (t m q o d k s : Lexeme)
    (rest : List Lexeme) → ts ≡ z0 ++ ends → z0 ≡ z1 ++ inside → z1 ≡ h0 ++ dos → h0 ≡ h1 ++ last → h1 ≡ h2 ++ tos →
    h2 ≡ h3 ++ first → h3 ≡ h4 ++ eqs → h4 ≡ fors ++ vars → ends ≡ end ++ semi → fors ≡ t ∷ [] → vars ≡ m ∷ [] →
    eqs ≡ q ∷ [] → tos ≡ o ∷ [] → dos ≡ d ∷ [] → end ≡ k ∷ [] → semi ≡ s ∷ [] →
    t ∷ m ∷ q ∷ (first ++ o ∷ (last ++ d ∷ (inside ++ k ∷ s ∷ rest))) ≡ ts ++ rest
for_spelled ts z0 ends z1 inside h0 dos h1 last h2 tos h3 first h4 eqs fors vars end semi t m q o d k s rest a b c e f h i j l n p u v x y z =
    rw (a, b, c, e, f, h, i, j, l, n, p, u, v, x, y, z) (ap (λ (us : List Lexeme). t ∷ m ∷ q ∷ us)
    (sym (append_assoc (first ++ o ∷ [] ++ last ++ d ∷ [] ++ inside) (k ∷ s ∷ []) rest
    ∙ (append_assoc (first ++ o ∷ [] ++ last ++ d ∷ []) inside (k ∷ s ∷ rest)
    ∙ (append_assoc (first ++ o ∷ [] ++ last) (d ∷ []) (inside ++ k ∷ s ∷ rest)
    ∙ (append_assoc (first ++ o ∷ []) last (d ∷ (inside ++ k ∷ s ∷ rest))
    ∙ append_assoc first (o ∷ []) (last ++ d ∷ (inside ++ k ∷ s ∷ rest))))))))

-- a FOR, if its statements are built so
for_built : (var : List ℕ) (first last : Expression) (ss : tree.Statements) (place : Place) (n : ℕ) → suc n ≤ limit →
    IsFreeWord var → IsShort first → IsShort last →
    ((us : List Lexeme) → Are us (statements_tokens ss) → (later : List Need) (x : Written later) → StatementsBuilt Second ss (suc n) us later x) →
    (ts : List Lexeme) → Are ts (statement_tokens (tree.For var first last ss place)) → (rest : List Need) (w : Written rest) →
    StatementBuilt Second (tree.For var first last ss place) n ts rest w
unfolding statement_tokens symbol_terminal word_terminal
for_built var first last ss place n room free low_is high_is inside ts are rest w =
    let q4 = word (codes "FOR") ++ word var in
    let q3 = q4 ++ equals in
    let q2 = q3 ++ sum_tokens first in
    let q1 = q2 ++ word (codes "TO") in
    let q0 = q1 ++ sum_tokens last in
    let a0 = parts ts (for_tokens var first last ++ statements_tokens ss) end_tokens are in
    let a1 = parts a0.first (for_tokens var first last) (statements_tokens ss) a0.front in
    let h0 = parts a1.first q0 (word (codes "DO")) a1.front in
    let h1 = parts h0.first q1 (sum_tokens last) h0.front in
    let h2 = parts h1.first q2 (word (codes "TO")) h1.front in
    let h3 = parts h2.first q3 (sum_tokens first) h2.front in
    let h4 = parts h3.first q4 equals h3.front in
    let h5 = parts h4.first (word (codes "FOR")) (word var) h4.front in
    let a5 = parts a0.second (word (codes "END")) semicolon a0.back in
    let t = single h5.first (leaf.word (codes "FOR")) h5.front in
    let m = single h5.second (leaf.word var) h5.back in
    let q = single h4.second (bare_symbol 61) h4.back in
    let o = single h2.second (leaf.word (codes "TO")) h2.back in
    let d = single h0.second (leaf.word (codes "DO")) h0.back in
    let k = single a5.first (leaf.word (codes "END")) a5.front in
    let s = single a5.second (bare_symbol 59) a5.back in
    let opens : terminal t.token ≡ Word = terminal_is t.token (leaf.word (codes "FOR")) t.is in
    let equal : terminal q.token ≡ Equals = terminal_is q.token (bare_symbol 61) q.is in
    let tos : terminal o.token ≡ Word = terminal_is o.token (leaf.word (codes "TO")) o.is in
    let dos : terminal d.token ≡ Word = terminal_is d.token (leaf.word (codes "DO")) d.is in
    let ends : terminal k.token ≡ End = terminal_is k.token (leaf.word (codes "END")) k.is in
    let stops : terminal s.token ≡ Semicolon = terminal_is s.token (bare_symbol 59) s.is in
    let after : List Need = mark End ∷ mark Semicolon ∷ rest in
    let body : List Need = keyword Do ∷ group (Statements Second) (suc n) ∷ after in
    let b = inside a1.second a1.back after (marked k.token ends (marked s.token stops w)) in
    let high = own_sum last high_is h1.second h1.back body (worded d.token dos (text_is d.token (leaf.word (codes "DO")) d.is) b.written) in
    let low = own_sum first low_is h3.second h3.back (keyword To ∷ fresh ∷ group Sum 0 ∷ body)
    (worded o.token tos (text_is o.token (leaf.word (codes "TO")) o.is) high.written) in
    let v = values low.written in
    let e1 : v.1 ≡ values high.written = low.others in
    let e2 : v.1.1 ≡ values b.written = ap (λ (y : Values (fresh ∷ group Sum 0 ∷ body)). y.1) e1 ∙ high.others in
    let e3 : v.1.1.1 ≡ values w = ap (λ (y : Values (group (Statements Second) (suc n) ∷ after)). y.1) e2 ∙ b.others in
    record {
      written = chosen g.for_ t.token (opens, text_is t.token (leaf.word (codes "FOR")) t.is)
          (token m.token (word_is_free m.token var m.is free) (marked q.token equal low.written));
      spelled = ap (λ (us : List Lexeme). t.token ∷ m.token ∷ q.token ∷ us) (low.spelled
          ∙ ap (λ (us : List Lexeme). h3.second ++ o.token ∷ us) (high.spelled ∙ ap (λ (us : List Lexeme). h1.second ++ d.token ∷ us) b.spelled))
          ∙ for_spelled ts a0.first a0.second a1.first a1.second h0.first h0.second h1.first h1.second h2.first h2.second h3.first h3.second
          h4.first h4.second h5.first h5.second a5.first a5.second
          t.token m.token q.token o.token d.token k.token s.token (spelling w)
          a0.whole a1.whole h0.whole h1.whole h2.whole h3.whole h4.whole h5.whole a5.whole t.whole m.whole q.whole o.whole d.whole k.whole s.whole;
      stands = for_stands var m.token.text first v.0 last v.1.0 ss v.1.1.0 place t.token.place (text_is m.token (leaf.word var) m.is) low.stands
          (ap (λ (y : Values (fresh ∷ group Sum 0 ∷ body)). y.0) e1 ∙ high.stands)
          (ap (λ (y : Values (group (Statements Second) (suc n) ∷ after)). unplaced_statements y.0) e2 ∙ b.stands);
      others = e3;
      fits = λ f a. (
        room,
        (
          omega arith,
          (
            omega arith,
            low.fits (λ i. (
              omega arith,
              high.fits (λ j. (
                omega arith,
                b.fits (λ l. (omega arith, (omega arith, f l))) j,
              )) i,
            )) a,
          ),
        ),
      );
    }

mutual
  unfolding statement_tokens symbol_terminal word_terminal

  pub statement_built : (v : Edition) (s : tree.Statement) (n : ℕ) → IsShortStatement v n s → (ts : List Lexeme) → Are ts (statement_tokens s) →
      (rest : List Need) (w : Written rest) → StatementBuilt v s n ts rest w
  statement_built edition (tree.Use u) n is ts are rest w =
      let b = use_built edition u is n ts are rest w in
      record { written = b.written; spelled = b.spelled; stands = ap unplaced_statement b.is ∙ ap (λ (x : tree.UseStatement). tree.Use x) b.same; others = b.others; fits = b.fits }
  statement_built edition (tree.Wire x) n is ts are rest w = wire_built edition x is n ts are rest w
  statement_built edition (tree.If test ss other place) n is ts are rest w =
      let p3 = word (codes "IF") ++ condition_tokens test in
      let p2 = p3 ++ word (codes "THEN") in
      let p1 = p2 ++ statements_tokens ss in
      let a0 = parts ts (p1 ++ else_tokens other) end_tokens are in
      let a1 = parts a0.first p1 (else_tokens other) a0.front in
      let a2 = parts a1.first p2 (statements_tokens ss) a1.front in
      let a3 = parts a2.first p3 (word (codes "THEN")) a2.front in
      let a4 = parts a3.first (word (codes "IF")) (condition_tokens test) a3.front in
      let a5 = parts a0.second (word (codes "END")) semicolon a0.back in
      let t = single a4.first (leaf.word (codes "IF")) a4.front in
      let h = single a3.second (leaf.word (codes "THEN")) a3.back in
      let k = single a5.first (leaf.word (codes "END")) a5.front in
      let s = single a5.second (bare_symbol 59) a5.back in
      let opens : terminal t.token ≡ g.opening (g.if_ {v = edition}) = terminal_is t.token (leaf.word (codes "IF")) t.is in
      let thens : terminal h.token ≡ Then = terminal_is h.token (leaf.word (codes "THEN")) h.is in
      let ends : terminal k.token ≡ End = terminal_is k.token (leaf.word (codes "END")) k.is in
      let stops : terminal s.token ≡ Semicolon = terminal_is s.token (bare_symbol 59) s.is in
      let o = otherwise_built edition other (suc n) is.3 a1.second a1.back (mark End ∷ mark Semicolon ∷ rest) (marked k.token ends (marked s.token stops w)) in
      let b = statements_built edition ss (suc n) is.2 a2.second a2.back (part (Otherwise edition) (suc n) ∷ mark End ∷ mark Semicolon ∷ rest) o.written in
      let c = own_test test is.1 a4.second a4.back
      (mark Then ∷ group (Statements edition) (suc n) ∷ part (Otherwise edition) (suc n) ∷ mark End ∷ mark Semicolon ∷ rest)
      (marked h.token thens b.written) in
      let v = values c.written in
      let e1 : v.1 ≡ values b.written = c.others in
      let e2 : v.1.1 ≡ values o.written = ap (λ (y : Values (group (Statements edition) (suc n) ∷ part (Otherwise edition) (suc n) ∷ mark End ∷ mark Semicolon ∷ rest)). y.1) e1 ∙ b.others in
      let e3 : v.1.1.1 ≡ values w = ap (λ (y : Values (part (Otherwise edition) (suc n) ∷ mark End ∷ mark Semicolon ∷ rest)). y.1) e2 ∙ o.others in
      record {
        written = chosen (g.if_ {v = edition}) t.token opens c.written;
        spelled = ap (λ (us : List Lexeme). t.token ∷ us) (c.spelled ∙ ap (λ (us : List Lexeme). a4.second ++ h.token ∷ us) (b.spelled ∙ ap (λ (us : List Lexeme). a2.second ++ us) o.spelled))
            ∙ if_spelled ts a0.first a0.second a1.first a1.second a2.first a2.second a3.first a3.second a4.first a4.second a5.first a5.second
            t.token h.token k.token s.token (spelling w) a0.whole a1.whole a2.whole a3.whole a4.whole a5.whole t.whole h.whole k.whole s.whole;
        stands = if_stands test v.0 ss v.1.0 other v.1.1.0 place t.token.place c.stands
            (ap (λ (y : Values (group (Statements edition) (suc n) ∷ part (Otherwise edition) (suc n) ∷ mark End ∷ mark Semicolon ∷ rest)). unplaced_statements y.0) e1 ∙ b.stands)
            (ap (λ (y : Values (part (Otherwise edition) (suc n) ∷ mark End ∷ mark Semicolon ∷ rest)). unplaced_otherwise y.0) e2 ∙ o.stands);
        others = e3;
        fits = λ f a. (is.0, c.fits (λ d. (omega arith, b.fits (λ i. o.fits (λ j. (omega arith, (omega arith, f j))) i) d)) a);
      }
  statement_built edition (tree.For var first last ss place) n is ts are rest w =
      let F : Edition → Type 0 = λ e. StatementBuilt e (tree.For var first last ss place) n ts rest w in
      let S : Edition → Type 0 = λ e. AreShort e (suc n) ss in
      let short : AreShort Second (suc n) ss = subst S is.0 is.5 in
      subst F (sym is.0) (for_built var first last ss place n is.1 is.2 is.3 is.4
      (λ us a later x. statements_built Second ss (suc n) short us a later x) ts are rest w)

  pub statements_built : (v : Edition) (ss : tree.Statements) (n : ℕ) → AreShort v n ss → (ts : List Lexeme) → Are ts (statements_tokens ss) →
      (rest : List Need) (w : Written rest) → StatementsBuilt v ss n ts rest w
  statements_built edition tree.nil n is ts are rest w = record { written = lacking tree.nil refl w; spelled = nothing_spelled ts (spelling w) are; stands = refl; others = refl; fits = λ f a. f a }
  statements_built edition (tree.cons s ss) n is ts are rest w =
      let two = parts ts (statement_tokens s) (statements_tokens ss) are in
      let m = statements_built edition ss n is.1 two.second two.back rest w in
      let b = statement_built edition s n is.0 two.first two.front (group (Statements edition) n ∷ rest) m.written in
      record {
        written = grouped b.written;
        spelled = b.spelled ∙ (ap (λ (us : List Lexeme). two.first ++ us) m.spelled ∙ spelled_two ts two.first two.second (spelling w) two.whole);
        stands = cons_stands s (values b.written).0 ss (values b.written).1.0 b.stands (ap (λ (v : Values (group (Statements edition) n ∷ rest)). unplaced_statements v.0) b.others ∙ m.stands);
        others = ap (λ (v : Values (group (Statements edition) n ∷ rest)). v.1) b.others ∙ m.others;
        fits = λ f a. b.fits (λ c. m.fits f c) a;
      }

  pub otherwise_built : (v : Edition) (other : tree.Otherwise) (n : ℕ) → IsShortOtherwise v n other → (ts : List Lexeme) →
      Are ts (else_tokens other) → (rest : List Need) (w : Written rest) → OtherwiseBuilt v other n ts rest w
  otherwise_built edition tree.no_else n is ts are rest w = record {
    written = left_out tree.no_else refl w;
    spelled = nothing_spelled ts (spelling w) are;
    stands = refl;
    others = refl;
    fits = λ f a. f a;
  }
  otherwise_built edition (tree.else_ ss) n is ts are rest w =
      let two = parts ts (word (codes "ELSE")) (statements_tokens ss) are in
      let t = single two.first (leaf.word (codes "ELSE")) two.front in
      let opens : terminal t.token ≡ g.opening (g.else_ {v = edition}) = terminal_is t.token (leaf.word (codes "ELSE")) t.is in
      let b = statements_built edition ss n is two.second two.back rest w in
      record {
        written = chosen (g.else_ {v = edition}) t.token opens b.written;
        spelled = ap (λ (us : List Lexeme). t.token ∷ us) b.spelled ∙ spelled_one ts two.first two.second t.token (spelling w) two.whole t.whole;
        stands = ap (λ (x : tree.Statements). tree.else_ x) b.stands;
        others = b.others;
        fits = λ f a. (omega arith, b.fits f a);
      }
