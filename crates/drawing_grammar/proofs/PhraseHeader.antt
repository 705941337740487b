-- The phrase of the header of a canonical text.
use Rattle.std.proofs.Common.{◌≡◌, ℕ, pos, List, [], ◌∷◌, ◌++◌, map, Option, Some, None, refl, sym, ap, subst, ◌∙◌, arith, append_assoc}
use Rattle.std.specs.Prelude.{codes}
use Rattle.drawing_tree.specs.Tree as tree
use Rattle.drawing_grammar.specs.declared.header.NumberPair.{NumberPair}
use Rattle.drawing_grammar.specs.declared.terminal.Keyword.TheVariants.{By}
use Rattle.drawing_grammar.specs.declared.terminal.Terminal.TheVariants as is
use Rattle.drawing_grammar.specs.Lexeme.{Lexeme, terminal, symbol_terminal, word_terminal, number_of}
use Rattle.drawing_grammar.specs.Grammar.{Need, mark, item, keyword, part, bounds, WireBounds, PrecisionSkew, ClockSkew}
use Rattle.drawing_grammar.specs.Grammar as g
use Rattle.drawing_grammar.specs.Sketch.{Values}
use Rattle.drawing_grammar.specs.Written.{Written, marked, token, worded, chosen, spelling, values}
use Rattle.drawing_grammar.proofs.Cutting.{Bare}
use Rattle.drawing_grammar.proofs.Leaves as leaf
use Rattle.drawing_grammar.proofs.CanonicalTokens.{word, number, semicolon, pair_tokens, header_tokens}
use Rattle.drawing_grammar.proofs.Matching.{bare, Are, parts, terminal_is, text_is}
use Rattle.drawing_grammar.proofs.PhraseSteps.{Fits, bare_symbol}
use Rattle.drawing_grammar.proofs.PhraseConnection.{PartBuilt}
use Rattle.drawing_grammar.proofs.PhraseCase.{number_is}

-- ---- the first token

pub record Next (ts : List Lexeme) (x : Bare) (bs : List Bare) : Type 0 where
  pub token : Lexeme
  pub rest : List Lexeme
  pub whole : ts ≡ token ∷ rest
  pub is : bare token ≡ x
  pub behind : Are rest bs

pub next : (ts : List Lexeme) (x : Bare) (bs : List Bare) → Are ts (x ∷ bs) → Next ts x bs
next [] x bs e = absurd cc
next (t ∷ ts) x bs e = let head : bare t ≡ x = cc in let tail : map bare ts ≡ bs = cc in record { token = t; rest = ts; whole = refl; is = head; behind = tail }

pub none_left : (ts : List Lexeme) → Are ts [] → ts ≡ []
none_left [] e = refl
none_left (t ∷ ts) e = absurd cc

-- ---- statements of two numbers

record Line (text : List ℕ) (a b : ℕ) (ts : List Lexeme) (rest : List Need) (w : Written rest) : Type 0 where
  begin : Lexeme
  is_begin : bare begin ≡ leaf.word text
  written : Written (bounds rest)
  spelled : begin ∷ spelling written ≡ ts ++ spelling w
  first : number_of (values written).0 ≡ pos a
  second : number_of (values written).1.0 ≡ pos b
  others : (values written).1.1 ≡ values w
  fits : ((d : ℕ) → Fits w d) → (d : ℕ) → Fits written d

joined : (ts r0 r1 r2 r3 r4 : List Lexeme) (t0 t1 t2 t3 t4 : Lexeme) → ts ≡ t0 ∷ r0 → r0 ≡ t1 ∷ r1 → r1 ≡ t2 ∷ r2 → r2 ≡ t3 ∷ r3 → r3 ≡ t4 ∷ r4 → r4 ≡ [] → ts ≡ t0 ∷ t1 ∷ t2 ∷ t3 ∷ t4 ∷ []
joined ts r0 r1 r2 r3 r4 t0 t1 t2 t3 t4 a b c d e f = rw (a, b, c, d, e, f) refl

line : (text : List ℕ) (a b : ℕ) (ts : List Lexeme) (rest : List Need) (w : Written rest) → Are ts (word text ++ pair_tokens a b ++ semicolon) → Line text a b ts rest w
unfolding symbol_terminal
line text a b ts rest w are =
    let n0 = next ts (leaf.word text) (leaf.number a ∷ bare_symbol 58 ∷ leaf.number b ∷ bare_symbol 59 ∷ []) are in
    let n1 = next n0.rest (leaf.number a) (bare_symbol 58 ∷ leaf.number b ∷ bare_symbol 59 ∷ []) n0.behind in
    let n2 = next n1.rest (bare_symbol 58) (leaf.number b ∷ bare_symbol 59 ∷ []) n1.behind in
    let n3 = next n2.rest (leaf.number b) (bare_symbol 59 ∷ []) n2.behind in
    let n4 = next n3.rest (bare_symbol 59) [] n3.behind in
    let firsts : terminal n1.token ≡ is.Number = terminal_is n1.token (leaf.number a) n1.is in
    let middles : terminal n2.token ≡ is.Colon = terminal_is n2.token (bare_symbol 58) n2.is in
    let seconds : terminal n3.token ≡ is.Number = terminal_is n3.token (leaf.number b) n3.is in
    let ends : terminal n4.token ≡ is.Semicolon = terminal_is n4.token (bare_symbol 59) n4.is in
    let whole = joined ts n0.rest n1.rest n2.rest n3.rest n4.rest n0.token n1.token n2.token n3.token n4.token n0.whole n1.whole n2.whole n3.whole n4.whole (none_left n4.rest n4.behind) in
    record {
      begin = n0.token;
      is_begin = n0.is;
      written = token n1.token firsts (marked n2.token middles (token n3.token seconds (marked n4.token ends w)));
      spelled = ap (λ (us : List Lexeme). us ++ spelling w) (sym whole);
      first = number_is n1.token a n1.is;
      second = number_is n3.token b n3.is;
      others = refl;
      fits = λ f c. (omega arith, (omega arith, (omega arith, (omega arith, f c))));
    }

-- these two numbers are written
abbrev pub IsPair : ℕ → ℕ → Option NumberPair → Type 0
IsPair a b None = ⊥
IsPair a b (Some pair) = (pair.first ≡ pos a) × (pair.second ≡ pos b)

module _ (a b : ℕ) (ts : List Lexeme) (rest : List Need) (w : Written rest) where
  wire_line : Are ts (word (codes "WIRE") ++ pair_tokens a b ++ semicolon) → PartBuilt WireBounds (IsPair a b) ts rest w
  unfolding word_terminal
  wire_line are =
      let l = line (codes "WIRE") a b ts rest w are in
      let begins : terminal l.begin ≡ g.opening g.wire_bounds = terminal_is l.begin (leaf.word (codes "WIRE")) l.is_begin in
      record { written = chosen g.wire_bounds l.begin begins l.written; spelled = l.spelled; stands = (l.first, l.second); others = l.others; fits = λ f c. (omega arith, l.fits f c) }

  precision_line : Are ts (word (codes "PSKEW") ++ pair_tokens a b ++ semicolon) → PartBuilt PrecisionSkew (IsPair a b) ts rest w
  unfolding word_terminal
  precision_line are =
      let l = line (codes "PSKEW") a b ts rest w are in
      let begins : terminal l.begin ≡ g.opening g.precision_skew = terminal_is l.begin (leaf.word (codes "PSKEW")) l.is_begin in
      record { written = chosen g.precision_skew l.begin begins l.written; spelled = l.spelled; stands = (l.first, l.second); others = l.others; fits = λ f c. (omega arith, l.fits f c) }

  clock_line : Are ts (word (codes "CSKEW") ++ pair_tokens a b ++ semicolon) → PartBuilt ClockSkew (IsPair a b) ts rest w
  unfolding word_terminal
  clock_line are =
      let l = line (codes "CSKEW") a b ts rest w are in
      let begins : terminal l.begin ≡ g.opening g.clock_skew = terminal_is l.begin (leaf.word (codes "CSKEW")) l.is_begin in
      record { written = chosen g.clock_skew l.begin begins l.written; spelled = l.spelled; stands = (l.first, l.second); others = l.others; fits = λ f c. (omega arith, l.fits f c) }

-- ---- the first two lines

record Front (version units ticks : ℕ) (ts : List Lexeme) : Type 0 where
  scald : Lexeme
  version_ : Lexeme
  stop : Lexeme
  clock : Lexeme
  units_ : Lexeme
  by : Lexeme
  ticks_ : Lexeme
  end : Lexeme
  whole : ts ≡ scald ∷ version_ ∷ stop ∷ clock ∷ units_ ∷ by ∷ ticks_ ∷ end ∷ []
  is_scald : bare scald ≡ leaf.word (codes "SCALD")
  is_version : bare version_ ≡ leaf.number version
  is_stop : bare stop ≡ bare_symbol 59
  is_clock : bare clock ≡ leaf.word (codes "CLOCK")
  is_units : bare units_ ≡ leaf.number units
  is_by : bare by ≡ leaf.word (codes "x")
  is_ticks : bare ticks_ ≡ leaf.number ticks
  is_end : bare end ≡ bare_symbol 59

all_joined : (ts r0 r1 r2 r3 r4 r5 r6 r7 : List Lexeme) (t0 t1 t2 t3 t4 t5 t6 t7 : Lexeme) → ts ≡ t0 ∷ r0 → r0 ≡ t1 ∷ r1 → r1 ≡ t2 ∷ r2 →
    r2 ≡ t3 ∷ r3 → r3 ≡ t4 ∷ r4 → r4 ≡ t5 ∷ r5 → r5 ≡ t6 ∷ r6 → r6 ≡ t7 ∷ r7 → r7 ≡ [] → ts ≡ t0 ∷ t1 ∷ t2 ∷ t3 ∷ t4 ∷ t5 ∷ t6 ∷ t7 ∷ []
all_joined ts r0 r1 r2 r3 r4 r5 r6 r7 t0 t1 t2 t3 t4 t5 t6 t7 a b c d e f h i j = rw (a, b, c, d, e, f, h, i, j) refl

front : (version units ticks : ℕ) (ts : List Lexeme) →
    Are ts ((word (codes "SCALD") ++ number version ++ semicolon) ++ (word (codes "CLOCK")
    ++ number units ++ word (codes "x") ++ number ticks ++ semicolon)) → Front version units ticks ts
front version units ticks ts are =
    let b7 = bare_symbol 59 ∷ [] in
    let b6 = leaf.number ticks ∷ b7 in
    let b5 = leaf.word (codes "x") ∷ b6 in
    let b4 = leaf.number units ∷ b5 in
    let b3 = leaf.word (codes "CLOCK") ∷ b4 in
    let b2 = bare_symbol 59 ∷ b3 in
    let b1 = leaf.number version ∷ b2 in
    let n0 = next ts (leaf.word (codes "SCALD")) b1 are in
    let n1 = next n0.rest (leaf.number version) b2 n0.behind in
    let n2 = next n1.rest (bare_symbol 59) b3 n1.behind in
    let n3 = next n2.rest (leaf.word (codes "CLOCK")) b4 n2.behind in
    let n4 = next n3.rest (leaf.number units) b5 n3.behind in
    let n5 = next n4.rest (leaf.word (codes "x")) b6 n4.behind in
    let n6 = next n5.rest (leaf.number ticks) b7 n5.behind in
    let n7 = next n6.rest (bare_symbol 59) [] n6.behind in
    record {
      scald = n0.token;
      version_ = n1.token;
      stop = n2.token;
      clock = n3.token;
      units_ = n4.token;
      by = n5.token;
      ticks_ = n6.token;
      end = n7.token;
      whole = all_joined ts n0.rest n1.rest n2.rest n3.rest n4.rest n5.rest n6.rest n7.rest n0.token n1.token n2.token n3.token
          n4.token n5.token n6.token n7.token n0.whole n1.whole n2.whole n3.whole n4.whole n5.whole n6.whole n7.whole (none_left n7.rest n7.behind);
      is_scald = n0.is;
      is_version = n1.is;
      is_stop = n2.is;
      is_clock = n3.is;
      is_units = n4.is;
      is_by = n5.is;
      is_ticks = n6.is;
      is_end = n7.is;
    }

-- ---- the header

pair_again : (a b : ℕ) (o p : Option NumberPair) → o ≡ p → IsPair a b p → IsPair a b o
pair_again a b o p e h = subst (IsPair a b) (sym e) h

header_spelled : (ts z5 clocks z6 precisions begin wires : List Lexeme) (t0 t1 t2 t3 t4 t5 t6 t7 : Lexeme) (rest : List Lexeme) →
    ts ≡ z5 ++ clocks → z5 ≡ z6 ++ precisions → z6 ≡ begin ++ wires → begin ≡ t0 ∷ t1 ∷ t2 ∷ t3 ∷ t4 ∷ t5 ∷ t6 ∷ t7 ∷ [] →
    t0 ∷ t1 ∷ t2 ∷ t3 ∷ t4 ∷ t5 ∷ t6 ∷ t7 ∷ (wires ++ (precisions ++ (clocks ++ rest))) ≡ ts ++ rest
header_spelled ts z5 clocks z6 precisions begin wires t0 t1 t2 t3 t4 t5 t6 t7 rest a b c d =
    rw (a, b, c, d) (ap (λ (us : List Lexeme). t0 ∷ t1 ∷ t2 ∷ t3 ∷ t4 ∷ t5 ∷ t6 ∷ t7 ∷ us)
    (sym (append_assoc (wires ++ precisions) clocks rest ∙ append_assoc wires precisions (clocks ++ rest))))

abbrev clock_needs : List Need → List Need
clock_needs rest = part ClockSkew 0 ∷ rest

abbrev precision_needs : List Need → List Need
precision_needs rest = part PrecisionSkew 0 ∷ clock_needs rest

-- what stands after the word SCALD, up to the constants or the macros
abbrev pub header_needs : List Need → List Need
header_needs rest =
    item is.Number ∷ mark is.Semicolon ∷ item is.Clock ∷ item is.Number ∷ keyword By ∷ item is.Number ∷ mark is.Semicolon
    ∷ part WireBounds 0 ∷ precision_needs rest

pub record HeaderBuilt (d : tree.Drawing) (ts : List Lexeme) (rest : List Need) (w : Written rest) : Type 0 where
  pub begin : Lexeme
  pub is_begin : terminal begin ≡ is.Scald
  pub written : Written (header_needs rest)
  pub spelled : begin ∷ spelling written ≡ ts ++ spelling w
  pub version : number_of (values written).0 ≡ pos d.version
  pub units : number_of (values written).1.1.0 ≡ pos d.header.units
  pub ticks : number_of (values written).1.1.1.0 ≡ pos d.header.ticks
  pub wire : IsPair d.header.wire.min d.header.wire.max (values written).1.1.1.1.0
  pub pskew : IsPair d.header.pskew.0 d.header.pskew.1 (values written).1.1.1.1.1.0
  pub cskew : IsPair d.header.cskew.0 d.header.cskew.1 (values written).1.1.1.1.1.1.0
  pub others : (values written).1.1.1.1.1.1.1 ≡ values w
  pub fits : ((a : ℕ) → Fits w a) → (a : ℕ) → Fits written a

pub header_built : (d : tree.Drawing) (ts : List Lexeme) → Are ts (header_tokens d.version d.header) → (rest : List Need) (w : Written rest) →
    HeaderBuilt d ts rest w
unfolding symbol_terminal word_terminal
header_built d ts are rest w =
    let h = d.header in
    let p7 = (word (codes "SCALD") ++ number d.version ++ semicolon) ++ (word (codes "CLOCK") ++ number h.units ++ word (codes "x") ++ number h.ticks ++ semicolon) in
    let b6 = word (codes "WIRE") ++ pair_tokens h.wire.min h.wire.max ++ semicolon in
    let p6 = p7 ++ b6 in
    let b5 = word (codes "PSKEW") ++ pair_tokens h.pskew.0 h.pskew.1 ++ semicolon in
    let p5 = p6 ++ b5 in
    let b4 = word (codes "CSKEW") ++ pair_tokens h.cskew.0 h.cskew.1 ++ semicolon in
    let a5 = parts ts p5 b4 are in
    let a6 = parts a5.first p6 b5 a5.front in
    let a7 = parts a6.first p7 b6 a6.front in
    let f = front d.version h.units h.ticks a7.first a7.front in
    let cskew = clock_line h.cskew.0 h.cskew.1 a5.second rest w a5.back in
    let pskew = precision_line h.pskew.0 h.pskew.1 a6.second (clock_needs rest) cskew.written a6.back in
    let wire = wire_line h.wire.min h.wire.max a7.second (precision_needs rest) pskew.written a7.back in
    let f_scald : terminal f.scald ≡ is.Scald = terminal_is f.scald (leaf.word (codes "SCALD")) f.is_scald in
    let f_version : terminal f.version_ ≡ is.Number = terminal_is f.version_ (leaf.number d.version) f.is_version in
    let f_stop : terminal f.stop ≡ is.Semicolon = terminal_is f.stop (bare_symbol 59) f.is_stop in
    let f_clock : terminal f.clock ≡ is.Clock = terminal_is f.clock (leaf.word (codes "CLOCK")) f.is_clock in
    let f_units : terminal f.units_ ≡ is.Number = terminal_is f.units_ (leaf.number h.units) f.is_units in
    let f_by : terminal f.by ≡ is.Word = terminal_is f.by (leaf.word (codes "x")) f.is_by in
    let f_ticks : terminal f.ticks_ ≡ is.Number = terminal_is f.ticks_ (leaf.number h.ticks) f.is_ticks in
    let f_end : terminal f.end ≡ is.Semicolon = terminal_is f.end (bare_symbol 59) f.is_end in
    let e1 : (values wire.written).1 ≡ values pskew.written = wire.others in
    let e2 : (values wire.written).1.1 ≡ values cskew.written = ap (λ (v : Values (precision_needs rest)). v.1) e1 ∙ pskew.others in
    record {
      begin = f.scald;
      is_begin = f_scald;
      written = token f.version_ f_version
          (marked f.stop f_stop (token f.clock f_clock (token f.units_ f_units
          (worded f.by f_by (text_is f.by (leaf.word (codes "x")) f.is_by) (token f.ticks_ f_ticks (marked f.end f_end wire.written))))));
      spelled =
          ap (λ (us : List Lexeme). f.scald ∷ f.version_ ∷ f.stop ∷ f.clock ∷ f.units_ ∷ f.by ∷ f.ticks_ ∷ f.end ∷ us)
          (wire.spelled ∙ ap (λ (us : List Lexeme). a7.second ++ us)
          (pskew.spelled ∙ ap (λ (us : List Lexeme). a6.second ++ us) cskew.spelled))
          ∙ header_spelled ts a5.first a5.second a6.first a6.second a7.first a7.second
          f.scald f.version_ f.stop f.clock f.units_ f.by f.ticks_ f.end (spelling w) a5.whole a6.whole a7.whole f.whole;
      version = number_is f.version_ d.version f.is_version;
      units = number_is f.units_ h.units f.is_units;
      ticks = number_is f.ticks_ h.ticks f.is_ticks;
      wire = wire.stands;
      pskew = pair_again h.pskew.0 h.pskew.1 (values wire.written).1.0 (values pskew.written).0 (ap (λ (v : Values (precision_needs rest)). v.0) e1) pskew.stands;
      cskew = pair_again h.cskew.0 h.cskew.1 (values wire.written).1.1.0 (values cskew.written).0 (ap (λ (v : Values (clock_needs rest)). v.0) e2) cskew.stands;
      others = ap (λ (v : Values (clock_needs rest)). v.1) e2 ∙ cskew.others;
      fits = λ k a. (
        omega arith,
        (
          omega arith,
          (
            omega arith,
            (
              omega arith,
              (
                omega arith,
                (
                  omega arith,
                  (
                    omega arith,
                    wire.fits (λ b. pskew.fits (λ i. cskew.fits k i) b) a,
                  ),
                ),
              ),
            ),
          ),
        ),
      );
    }
