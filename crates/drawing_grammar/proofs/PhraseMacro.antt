-- The phrases of canonical bodies and macros.
use Rattle.std.proofs.Common.{◌≡◌, ℕ, List, [], ◌∷◌, ◌++◌, map, refl, sym, ap, ◌∙◌, arith, append_assoc}
use Rattle.std.specs.Prelude.{codes}
use Rattle.std.specs.List.{flat_map, AllByRecursion}
use Rattle.drawing_tree.specs.Tree as tree
use Rattle.drawing_tree.specs.Places.{unplaced_statements, unplaced_macro}
use Rattle.drawing_tree.specs.WellFormed.{IsFreeWord}
use Rattle.drawing_grammar.specs.declared.terminal.Terminal.TheVariants.{End, Semicolon, OpenParenthesis, CloseParenthesis}
use Rattle.drawing_grammar.specs.declared.edition.Edition.{Edition}
use Rattle.drawing_grammar.specs.Lexeme.{Lexeme, terminal, symbol_terminal, word_terminal}
use Rattle.drawing_grammar.specs.Grammar.{Need, mark, part, group, Statements, Formals, FormalOutputs, Macro, Macros}
use Rattle.drawing_grammar.specs.Grammar as g
use Rattle.drawing_grammar.specs.Sketch.{Values, PlacedList, HeadedMacro, HeadedMacros, headed_macro, with_macro}
use Rattle.drawing_grammar.specs.Written.{Written, marked, token, chosen, grouped, lacking, spelling, values}
use Rattle.drawing_grammar.proofs.Leaves as leaf
use Rattle.drawing_grammar.proofs.CanonicalTokens.{word, semicolon, open_parenthesis, close_parenthesis, params_tokens, inputs_tokens, outputs_tokens, formal_tokens, listed_tokens, statements_tokens, end_tokens, body_tokens, macro_tokens}
use Rattle.drawing_grammar.proofs.Matching.{Are, parts, single, terminal_is, text_is, word_is_free}
use Rattle.drawing_grammar.proofs.PhraseSteps.{Fits, bare_symbol, spelled_two, spelled_between}
use Rattle.drawing_grammar.proofs.PhraseConnection.{PartBuilt, nothing_spelled}
use Rattle.drawing_grammar.proofs.PhraseConnections.{GroupBuilt}
use Rattle.drawing_grammar.proofs.PhraseParameters.{IsShortAssignment, params_built}
use Rattle.drawing_grammar.proofs.PhraseStatement.{AreShort, statements_built}
use Rattle.drawing_grammar.proofs.PhraseFormals.{IsShortFormal, all_formals, formal_outputs_built}

-- ---- a body and the END after it

pub record BodyBuilt (edition : Edition) (ss : tree.Statements) (ts : List Lexeme) (rest : List Need) (w : Written rest) : Type 0 where
  pub written : Written (group (Statements edition) 0 ∷ mark End ∷ mark Semicolon ∷ rest)
  pub spelled : spelling written ≡ ts ++ spelling w
  pub stands : unplaced_statements (values written).0 ≡ unplaced_statements ss
  pub others : (values written).1 ≡ values w
  pub fits : ((a : ℕ) → Fits w a) → (a : ℕ) → Fits written a

body_spelled : (ts before last first second : List Lexeme) (t u : Lexeme) (rest : List Lexeme) →
    ts ≡ before ++ last → last ≡ first ++ second → first ≡ t ∷ [] → second ≡ u ∷ [] → before ++ t ∷ u ∷ rest ≡ ts ++ rest
body_spelled ts before last first second t u rest a b c d = rw (a, b, c, d) (sym (append_assoc before (t ∷ u ∷ []) rest))

pub body_built : (edition : Edition) (ss : tree.Statements) → AreShort edition 0 ss → (ts : List Lexeme) → Are ts (body_tokens ss) →
    (rest : List Need) (w : Written rest) → BodyBuilt edition ss ts rest w
unfolding symbol_terminal word_terminal
body_built edition ss is ts are rest w =
    let two = parts ts (statements_tokens ss) end_tokens are in
    let ends = parts two.second (word (codes "END")) semicolon two.back in
    let t = single ends.first (leaf.word (codes "END")) ends.front in
    let u = single ends.second (bare_symbol 59) ends.back in
    let end : terminal t.token ≡ End = terminal_is t.token (leaf.word (codes "END")) t.is in
    let stop : terminal u.token ≡ Semicolon = terminal_is u.token (bare_symbol 59) u.is in
    let b = statements_built edition ss 0 is two.first two.front (mark End ∷ mark Semicolon ∷ rest) (marked t.token end (marked u.token stop w)) in
    record {
      written = b.written;
      spelled = b.spelled ∙ body_spelled ts two.first two.second ends.first ends.second t.token u.token (spelling w) two.whole ends.whole t.whole u.whole;
      stands = b.stands;
      others = b.others;
      fits = λ f a. b.fits (λ c. (omega arith, (omega arith, f c))) a;
    }

-- ---- the inputs in their parentheses

record InsBuilt (fs : List tree.Formal) (ts : List Lexeme) (rest : List Need) (w : Written rest) : Type 0 where
  written : Written (mark OpenParenthesis ∷ group Formals 0 ∷ mark CloseParenthesis ∷ rest)
  spelled : spelling written ≡ ts ++ spelling w
  stands : (values written).0.items ≡ fs
  others : (values written).1 ≡ values w
  fits : ((a : ℕ) → Fits w a) → (a : ℕ) → Fits written a

ins_built : (fs : List tree.Formal) → AllByRecursion IsShortFormal fs → (ts : List Lexeme) → Are ts (inputs_tokens formal_tokens fs) → (rest : List Need) (w : Written rest) → InsBuilt fs ts rest w
unfolding symbol_terminal
ins_built fs is ts are rest w =
    let b0 = parts ts (open_parenthesis ++ listed_tokens formal_tokens fs) close_parenthesis are in
    let b1 = parts b0.first open_parenthesis (listed_tokens formal_tokens fs) b0.front in
    let o = single b1.first (bare_symbol 40) b1.front in
    let x = single b0.second (bare_symbol 41) b0.back in
    let opens : terminal o.token ≡ OpenParenthesis = terminal_is o.token (bare_symbol 40) o.is in
    let closes : terminal x.token ≡ CloseParenthesis = terminal_is x.token (bare_symbol 41) x.is in
    let b = all_formals fs is b1.second b1.back (mark CloseParenthesis ∷ rest) (marked x.token closes w) in
    record {
      written = marked o.token opens b.written;
      spelled = ap (λ (us : List Lexeme). o.token ∷ us) b.spelled ∙ spelled_between ts b1.first b1.second b0.first b0.second o.token x.token (spelling w) b0.whole b1.whole o.whole x.whole;
      stands = b.stands;
      others = b.others;
      fits = λ f a. (omega arith, b.fits (λ c. (omega arith, f c)) a);
    }

-- ---- one macro

pub record IsShortMacro (edition : Edition) (m : tree.Macro) : Type 0 where
  pub name : IsFreeWord m.name
  pub params : AllByRecursion IsShortAssignment m.params
  pub ins : AllByRecursion IsShortFormal m.ins
  pub outs : AllByRecursion IsShortFormal m.outs
  pub body : AreShort edition 0 m.body

-- It holds this macro, places aside.
abbrev pub IsMacro : tree.Macro → HeadedMacro → Type 0
IsMacro m v = unplaced_macro v.macro ≡ unplaced_macro m

macro_stands : (m : tree.Macro) (name : Lexeme) (params : PlacedList tree.Assignment) (ins outs : PlacedList tree.Formal) (body : tree.Statements) →
    name.text ≡ m.name → params.items ≡ m.params → ins.items ≡ m.ins → outs.items ≡ m.outs →
    unplaced_statements body ≡ unplaced_statements m.body → IsMacro m (headed_macro name params ins outs body)
macro_stands m name params ins outs body a b c d e = rw (a, b, c, d, e) refl

macro_spelled : (ts head body z0 semi z1 outs z2 ins z3 params begin name : List Lexeme) (t n s : Lexeme) (rest : List Lexeme) → ts ≡ head ++ body →
    head ≡ z0 ++ semi → z0 ≡ z1 ++ outs → z1 ≡ z2 ++ ins → z2 ≡ z3 ++ params → z3 ≡ begin ++ name → begin ≡ t ∷ [] → name ≡ n ∷ [] → semi ≡ s ∷ [] →
    t ∷ n ∷ (params ++ (ins ++ (outs ++ s ∷ (body ++ rest)))) ≡ ts ++ rest
macro_spelled ts head body z0 semi z1 outs z2 ins z3 params begin name t n s rest a b c d e f h i j =
    rw (a, b, c, d, e, f, h, i, j) (ap (λ (us : List Lexeme). t ∷ n ∷ us) (sym (append_assoc (params ++ ins ++ outs ++ s ∷ []) body rest
    ∙ (append_assoc (params ++ ins ++ outs) (s ∷ []) (body ++ rest)
    ∙ (append_assoc (params ++ ins) outs (s ∷ (body ++ rest))
    ∙ append_assoc params ins (outs ++ s ∷ (body ++ rest)))))))

pub macro_built : (edition : Edition) (m : tree.Macro) → IsShortMacro edition m → (ts : List Lexeme) → Are ts (macro_tokens m) →
    (rest : List Need) (w : Written rest) → PartBuilt (Macro edition) (IsMacro m) ts rest w
unfolding symbol_terminal word_terminal
macro_built edition m is ts are rest w =
    let outs_bare = outputs_tokens formal_tokens m.outs in
    let ins_bare = inputs_tokens formal_tokens m.ins in
    let p3 = word (codes "MACRO") ++ word m.name in
    let p2 = p3 ++ params_tokens m.params in
    let p1 = p2 ++ ins_bare in
    let a = parts ts (p1 ++ outs_bare ++ semicolon) (body_tokens m.body) are in
    let a0 = parts a.first (p1 ++ outs_bare) semicolon a.front in
    let a1 = parts a0.first p1 outs_bare a0.front in
    let a2 = parts a1.first p2 ins_bare a1.front in
    let a3 = parts a2.first p3 (params_tokens m.params) a2.front in
    let a4 = parts a3.first (word (codes "MACRO")) (word m.name) a3.front in
    let t = single a4.first (leaf.word (codes "MACRO")) a4.front in
    let n = single a4.second (leaf.word m.name) a4.back in
    let s = single a0.second (bare_symbol 59) a0.back in
    let opens : terminal t.token ≡ g.opening (g.macro {v = edition}) = terminal_is t.token (leaf.word (codes "MACRO")) t.is in
    let ends : terminal s.token ≡ Semicolon = terminal_is s.token (bare_symbol 59) s.is in
    let body = body_built edition m.body is.body a.second a.back rest w in
    let outs = formal_outputs_built m.outs is.outs a1.second a1.back (mark Semicolon ∷ group (Statements edition) 0 ∷ mark End ∷ mark Semicolon ∷ rest) (marked s.token ends body.written) in
    let ins = ins_built m.ins is.ins a2.second a2.back (part FormalOutputs 0 ∷ mark Semicolon ∷ group (Statements edition) 0 ∷ mark End ∷ mark Semicolon ∷ rest) outs.written in
    let params = params_built m.params is.params a3.second a3.back (mark OpenParenthesis ∷ group Formals
    0 ∷ mark CloseParenthesis ∷ part FormalOutputs 0 ∷ mark Semicolon ∷ group (Statements edition) 0 ∷ mark End ∷ mark Semicolon ∷ rest) ins.written in
    let v = values params.written in
    let e1 : v.1 ≡ values ins.written = params.others in
    let e2 : v.1.1 ≡ values outs.written =
    ap (λ (y : Values (group Formals 0 ∷ mark CloseParenthesis ∷ part FormalOutputs
    0 ∷ mark Semicolon ∷ group (Statements edition) 0 ∷ mark End ∷ mark Semicolon ∷ rest)). y.1) e1 ∙ ins.others in
    let e3 : v.1.1.1 ≡ values body.written = ap (λ (y : Values (part FormalOutputs 0 ∷ mark Semicolon ∷ group (Statements edition) 0 ∷ mark End ∷ mark Semicolon ∷ rest)). y.1) e2 ∙ outs.others in
    record {
      written = chosen (g.macro {v = edition}) t.token opens (token n.token (word_is_free n.token m.name n.is is.name) params.written);
      spelled =
          ap (λ (us : List Lexeme). t.token ∷ n.token ∷ us)
          (params.spelled ∙ ap (λ (us : List Lexeme). a3.second ++ us)
          (ins.spelled ∙ ap (λ (us : List Lexeme). a2.second ++ us)
          (outs.spelled ∙ ap (λ (us : List Lexeme). a1.second ++ s.token ∷ us) body.spelled)))
          ∙ macro_spelled ts a.first a.second a0.first a0.second a1.first a1.second a2.first a2.second a3.first a3.second a4.first a4.second t.token n.token s.token (spelling w)
          a.whole a0.whole a1.whole a2.whole a3.whole a4.whole t.whole n.whole s.whole;
      stands = macro_stands m n.token v.0 v.1.0 v.1.1.0 v.1.1.1.0 (text_is n.token (leaf.word m.name) n.is) params.stands
          (ap (λ (y : Values (group Formals 0 ∷ mark CloseParenthesis ∷ part FormalOutputs 0 ∷ mark Semicolon ∷
          group (Statements edition) 0 ∷ mark End ∷ mark Semicolon ∷ rest)). y.0.items) e1 ∙ ins.stands)
          (ap (λ (y : Values (part FormalOutputs 0 ∷ mark Semicolon ∷ group (Statements edition) 0 ∷ mark End ∷ mark Semicolon ∷ rest)). y.0.items) e2 ∙ outs.stands)
          (ap (λ (y : Values (group (Statements edition) 0 ∷ mark End ∷ mark Semicolon ∷ rest)). unplaced_statements y.0) e3 ∙ body.stands);
      others = ap (λ (y : Values (group (Statements edition) 0 ∷ mark End ∷ mark Semicolon ∷ rest)). y.1) e3 ∙ body.others;
      fits = λ f b. (omega arith, (omega arith, params.fits (λ c. ins.fits (λ d. outs.fits (λ h. (omega arith, body.fits f h)) d) c) b));
    }

-- ---- several

-- They hold these macros, places aside.
abbrev pub AreMacros : List tree.Macro → HeadedMacros → Type 0
AreMacros ms v = map unplaced_macro v.macros ≡ map unplaced_macro ms

macros_stand : (m : tree.Macro) (ms : List tree.Macro) (first : HeadedMacro) (more : HeadedMacros) → IsMacro m first → AreMacros ms more → AreMacros (m ∷ ms) (with_macro first more)
macros_stand m ms first more a b = rw (a, b) refl

pub macros_built : (edition : Edition) (ms : List tree.Macro) → AllByRecursion (IsShortMacro edition) ms → (ts : List Lexeme) →
    Are ts (flat_map macro_tokens ms) → (rest : List Need) (w : Written rest) → GroupBuilt (Macros edition) (AreMacros ms) ts rest w
macros_built edition [] is ts are rest w = record {
  written = lacking (record { macros = []; heads = [] }) refl w;
  spelled =
      nothing_spelled ts (spelling w) are;
  stands = refl;
  others = refl;
  fits = λ f a. f a;
}
macros_built edition (m ∷ ms) is ts are rest w =
    let two = parts ts (macro_tokens m) (flat_map macro_tokens ms) are in
    let more = macros_built edition ms is.1 two.second two.back rest w in
    let b = macro_built edition m is.0 two.first two.front (group (Macros edition) 0 ∷ rest) more.written in
    record {
      written = grouped b.written;
      spelled = b.spelled ∙ (ap (λ (us : List Lexeme). two.first ++ us) more.spelled ∙ spelled_two ts two.first two.second (spelling w) two.whole);
      stands = macros_stand m ms (values b.written).0 (values b.written).1.0 b.stands (ap (λ (v : Values (group (Macros edition) 0 ∷ rest)). map unplaced_macro v.0.macros) b.others ∙ more.stands);
      others = ap (λ (v : Values (group (Macros edition) 0 ∷ rest)). v.1) b.others ∙ more.others;
      fits = λ f a. b.fits (λ c. more.fits f c) a;
    }
