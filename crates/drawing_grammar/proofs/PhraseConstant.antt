-- The phrases of canonical constants.
use Rattle.std.proofs.Common.{◌≡◌, ℕ, List, [], ◌∷◌, ◌++◌, refl, sym, ap, ◌∙◌, arith, append_assoc}
use Rattle.std.specs.Prelude.{codes}
use Rattle.std.specs.List.{flat_map, AllByRecursion}
use Rattle.drawing_tree.specs.Tree as tree
use Rattle.drawing_grammar.specs.declared.edition.Edition.{Edition}
use Rattle.drawing_grammar.specs.declared.edition.Edition.TheVariants.{First, Second}
use Rattle.drawing_grammar.specs.declared.terminal.Terminal.TheVariants.{Word, Semicolon, Equals}
use Rattle.drawing_grammar.specs.Lexeme.{Lexeme, terminal, symbol_terminal, word_terminal}
use Rattle.drawing_grammar.specs.Grammar.{Need, mark, group, Constant, Constants, constants}
use Rattle.drawing_grammar.specs.Grammar as g
use Rattle.drawing_grammar.specs.Sketch.{PlacedConstant, PlacedConstants, Values, no_constants, with_constant, constants_of, behind_constants}
use Rattle.drawing_grammar.specs.Written.{Written, marked, token, chosen, grouped, lacking, spelling, values}
use Rattle.drawing_grammar.proofs.Leaves as leaf
use Rattle.drawing_grammar.proofs.CanonicalTokens.{word, semicolon, equals, sum_tokens, constant_tokens}
use Rattle.drawing_grammar.proofs.Matching.{Are, parts, single, terminal_is, text_is, word_is_free}
use Rattle.drawing_grammar.proofs.PhraseSteps.{Fits, bare_symbol, spelled_two}
use Rattle.drawing_grammar.proofs.PhraseConnection.{PartBuilt, own_sum, nothing_spelled}
use Rattle.drawing_grammar.proofs.PhraseConnections.{GroupBuilt}
use Rattle.drawing_grammar.proofs.PhraseParameters.{IsShortAssignment, assigned}

-- ---- one constant

constant_spelled : (ts z0 semi z1 value z2 eqs begin name : List Lexeme) (t n q s : Lexeme) (rest : List Lexeme) → ts ≡ z0 ++ semi →
    z0 ≡ z1 ++ value → z1 ≡ z2 ++ eqs → z2 ≡ begin ++ name → begin ≡ t ∷ [] → name ≡ n ∷ [] → eqs ≡ q ∷ [] → semi ≡ s ∷ [] →
    t ∷ n ∷ q ∷ (value ++ s ∷ rest) ≡ ts ++ rest
constant_spelled ts z0 semi z1 value z2 eqs begin name t n q s rest a b c d e f h i =
    rw (a, b, c, d, e, f, h, i) (ap (λ (us : List Lexeme). t ∷ n ∷ q ∷ us) (sym (append_assoc value (s ∷ []) rest)))

constant_built : (c : tree.Assignment) → IsShortAssignment c → (ts : List Lexeme) → Are ts (constant_tokens c) →
    (rest : List Need) (w : Written rest) → PartBuilt Constant (λ v. v.constant ≡ c) ts rest w
unfolding symbol_terminal word_terminal
constant_built c is ts are rest w =
    let p2 = word (codes "CONST") ++ word c.name in
    let p1 = p2 ++ equals in
    let a0 = parts ts (p1 ++ sum_tokens c.value) semicolon are in
    let a1 = parts a0.first p1 (sum_tokens c.value) a0.front in
    let a2 = parts a1.first p2 equals a1.front in
    let a3 = parts a2.first (word (codes "CONST")) (word c.name) a2.front in
    let t = single a3.first (leaf.word (codes "CONST")) a3.front in
    let n = single a3.second (leaf.word c.name) a3.back in
    let q = single a2.second (bare_symbol 61) a2.back in
    let s = single a0.second (bare_symbol 59) a0.back in
    let opens : terminal t.token ≡ Word = terminal_is t.token (leaf.word (codes "CONST")) t.is in
    let equal : terminal q.token ≡ Equals = terminal_is q.token (bare_symbol 61) q.is in
    let ends : terminal s.token ≡ Semicolon = terminal_is s.token (bare_symbol 59) s.is in
    let value = own_sum c.value is.value a1.second a1.back (mark Semicolon ∷ rest) (marked s.token ends w) in
    record {
      written = chosen g.constant t.token (opens, text_is t.token (leaf.word (codes "CONST")) t.is)
          (token n.token (word_is_free n.token c.name n.is is.name) (marked q.token equal value.written));
      spelled = ap (λ (us : List Lexeme). t.token ∷ n.token ∷ q.token ∷ us) value.spelled
          ∙ constant_spelled ts a0.first a0.second a1.first a1.second a2.first a2.second a3.first a3.second t.token n.token q.token s.token
          (spelling w) a0.whole a1.whole a2.whole a3.whole t.whole n.whole q.whole s.whole;
      stands = assigned c n.token.text (values value.written).0 (text_is n.token (leaf.word c.name) n.is) value.stands;
      others = value.others;
      fits = λ f a. (omega arith, (omega arith, (omega arith, value.fits (λ b. (omega arith, f b)) a)));
    }

-- ---- several

constants_stand : (c : tree.Assignment) (cs : List tree.Assignment) (first : PlacedConstant) (more : PlacedConstants) →
    first.constant ≡ c → more.constants ≡ cs → (with_constant first more).constants ≡ c ∷ cs
constants_stand c cs first more a b = rw (a, b) refl

constants_built : (cs : List tree.Assignment) → AllByRecursion IsShortAssignment cs → (ts : List Lexeme) →
    Are ts (flat_map constant_tokens cs) → (rest : List Need) (w : Written rest) → GroupBuilt Constants (λ v. v.constants ≡ cs) ts rest w
constants_built [] is ts are rest w = record {
  written = lacking no_constants refl w;
  spelled = nothing_spelled ts (spelling w) are;
  stands = refl;
  others = refl;
  fits = λ f a. f a;
}
constants_built (c ∷ cs) is ts are rest w =
    let two = parts ts (constant_tokens c) (flat_map constant_tokens cs) are in
    let more = constants_built cs is.1 two.second two.back rest w in
    let b = constant_built c is.0 two.first two.front (group Constants 0 ∷ rest) more.written in
    record {
      written = grouped b.written;
      spelled = b.spelled ∙ (ap (λ (us : List Lexeme). two.first ++ us) more.spelled ∙ spelled_two ts two.first two.second (spelling w) two.whole);
      stands = constants_stand c cs (values b.written).0 (values b.written).1.0 b.stands
          (ap (λ (v : Values (group Constants 0 ∷ rest)). v.0.constants) b.others ∙ more.stands);
      others = ap (λ (v : Values (group Constants 0 ∷ rest)). v.1) b.others ∙ more.others;
      fits = λ f a. b.fits (λ d. more.fits f d) a;
    }

-- ---- those of a text of a version

pub record ConstantsBuilt (v : Edition) (cs : List tree.Assignment) (ts : List Lexeme) (rest : List Need) (w : Written rest) : Type 0 where
  pub written : Written (constants v rest)
  pub spelled : spelling written ≡ ts ++ spelling w
  pub stands : (constants_of v rest (values written)).constants ≡ cs
  pub others : behind_constants v rest (values written) ≡ values w
  pub fits : ((a : ℕ) → Fits w a) → (a : ℕ) → Fits written a

pub constants_of_text : (v : Edition) (cs : List tree.Assignment) → AllByRecursion IsShortAssignment cs → (v ≡ First → cs ≡ []) →
    (ts : List Lexeme) → Are ts (flat_map constant_tokens cs) → (rest : List Need) (w : Written rest) → ConstantsBuilt v cs ts rest w
constants_of_text First [] is none ts are rest w = record {
  written = w;
  spelled = nothing_spelled ts (spelling w) are;
  stands = refl;
  others = refl;
  fits = λ f a. f a;
}
constants_of_text First (c ∷ cs) is none ts are rest w = let k = none refl in absurd cc
constants_of_text Second cs is none ts are rest w =
    let b = constants_built cs is ts are rest w in
    record { written = b.written; spelled = b.spelled; stands = b.stands; others = b.others; fits = b.fits }
