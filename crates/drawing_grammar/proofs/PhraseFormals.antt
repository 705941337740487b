-- The phrases of canonical formals: one, several, the inputs and the outputs.
use Rattle.std.proofs.Common.{◌≡◌, ℕ, false, List, [], ◌∷◌, ◌++◌, Option, refl, sym, ap, ◌∙◌, arith}
use Rattle.std.specs.Prelude.{IfSome}
use Rattle.std.proofs.lemmas.List.{append-nil}
use Rattle.std.specs.List.{flat_map, AllByRecursion}
use Rattle.scald_base.specs.declared.assertion.AssertSpec.TheVariants.{None as Unasserted}
use Rattle.assertion_syntax.specs.declared.name.SignalName.{SignalName}
use Rattle.assertion_syntax.specs.Name.{IsBase, name_text}
use Rattle.drawing_tree.specs.Tree as tree
use Rattle.drawing_grammar.specs.declared.terminal.Terminal.TheVariants.{OpenParenthesis, CloseParenthesis}
use Rattle.drawing_grammar.specs.Lexeme.{Lexeme, terminal, symbol_terminal}
use Rattle.drawing_grammar.specs.Grammar.{Need, mark, part, Formal, MoreFormals, FormalOutputs, SomeFormals, Formals}
use Rattle.drawing_grammar.specs.Grammar as g
use Rattle.drawing_grammar.specs.Sketch.{Values, no_items, with_item, signal_of}
use Rattle.drawing_grammar.specs.Written.{Written, marked, chosen, left_out, grouped, lacking, spelling, values}
use Rattle.drawing_grammar.proofs.Leaves as leaf
use Rattle.drawing_grammar.proofs.CanonicalTokens.{name, comma, arrow, open_parenthesis, close_parenthesis, range_tokens, formal_tokens, outputs_tokens, listed_tokens}
use Rattle.drawing_grammar.proofs.Matching.{bare, Are, parts, single, terminal_is}
use Rattle.drawing_grammar.proofs.PhraseSteps.{Fits, bare_symbol, items_stand, spelled_item, spelled_one, spelled_two}
use Rattle.drawing_grammar.proofs.PhraseConnection.{IsShortRange, PartBuilt, range_built, signal_again, nothing_spelled}
use Rattle.drawing_grammar.proofs.PhraseConnections.{GroupBuilt}
use Rattle.drawing_grammar.proofs.PhraseParameters.{arrow_bare, outputs_spelled}

pub record IsShortFormal (f : tree.Formal) : Type 0 where
  pub base : IsBase f.base
  pub range : IfSome f.range IsShortRange

-- ---- one formal

-- the name of a formal
abbrev pub plain_name : List ℕ → SignalName
plain_name base = record { base = base; global = false; spec = Unasserted }

base_again : (t : Lexeme) (base : List ℕ) → IsBase base → bare t ≡ leaf.name base → (signal_of t).base ≡ base
base_again t base is e =
    let spelled : name_text (plain_name base) ≡ base = append-nil base in
    let here : bare t ≡ leaf.name (name_text (plain_name base)) = e ∙ ap (λ (text : List ℕ). leaf.name text) (sym spelled) in
    ap (λ (n : SignalName). n.base) (signal_again t (plain_name base) (record { base = is; assertion = tt }) here)

formal_stands : (f : tree.Formal) (base : List ℕ) (range : Option tree.Range) → base ≡ f.base → range ≡ f.range → (let x : tree.Formal = record { base = base; range = range } in x) ≡ f
formal_stands f base range e h = rw (e, h) refl

formal_built : (f : tree.Formal) → IsShortFormal f → (ts : List Lexeme) → Are ts (formal_tokens f) → (rest : List Need) (w : Written rest) → PartBuilt Formal (λ v. v.item ≡ f) ts rest w
formal_built f is ts are rest w =
    let two = parts ts (name f.base) (range_tokens f.range) are in
    let t = single two.first (leaf.name f.base) two.front in
    let r = range_built f.range is.range two.second two.back rest w in
    record {
      written = chosen g.formal t.token (terminal_is t.token (leaf.name f.base) t.is) r.written;
      spelled = ap (λ (us : List Lexeme). t.token ∷ us) r.spelled ∙ spelled_one ts two.first two.second t.token (spelling w) two.whole t.whole;
      stands = formal_stands f (signal_of t.token).base (values r.written).0 (base_again t.token f.base is.base t.is) r.stands;
      others = r.others;
      fits = λ h a. (omega arith, r.fits h a);
    }

-- ---- several

more_formals : (xs : List tree.Formal) → AllByRecursion IsShortFormal xs → (ts : List Lexeme) →
    Are ts (flat_map (λ f. comma ++ formal_tokens f) xs) → (rest : List Need) (w : Written rest) → PartBuilt MoreFormals (λ v. v.items ≡ xs) ts rest w
unfolding symbol_terminal
more_formals [] is ts are rest w = record { written = left_out no_items refl w; spelled = nothing_spelled ts (spelling w) are; stands = refl; others = refl; fits = λ h a. h a }
more_formals (f ∷ xs) is ts are rest w =
    let two = parts ts (comma ++ formal_tokens f) (flat_map (λ x. comma ++ formal_tokens x) xs) are in
    let one = parts two.first comma (formal_tokens f) two.front in
    let t = single one.first (bare_symbol 44) one.front in
    let opens : terminal t.token ≡ g.opening g.next_formal = terminal_is t.token (bare_symbol 44) t.is in
    let m = more_formals xs is.1 two.second two.back rest w in
    let b = formal_built f is.0 one.second one.back (part MoreFormals 0 ∷ rest) m.written in
    record {
      written = chosen g.next_formal t.token opens b.written;
      spelled = ap (λ (us : List Lexeme). t.token ∷ us) (b.spelled ∙ ap (λ (us : List Lexeme). one.second ++ us) m.spelled)
          ∙ spelled_item ts one.first one.second two.first two.second t.token (spelling w) two.whole one.whole t.whole;
      stands = items_stand f xs (values b.written).0 (values b.written).1.0 b.stands (ap (λ (v : Values (part MoreFormals 0 ∷ rest)). v.0.items) b.others ∙ m.stands);
      others = ap (λ (v : Values (part MoreFormals 0 ∷ rest)). v.1) b.others ∙ m.others;
      fits = λ h a. (omega arith, b.fits (λ d. m.fits h d) a);
    }

-- the first one and those after it, whatever group they make
record FormalsBuilt (f : tree.Formal) (xs : List tree.Formal) (ts : List Lexeme) (rest : List Need) (w : Written rest) : Type 0 where
  written : Written (part Formal 0 ∷ part MoreFormals 0 ∷ rest)
  spelled : spelling written ≡ ts ++ spelling w
  stands : (with_item (values written).0 (values written).1.0).items ≡ f ∷ xs
  others : (values written).1.1 ≡ values w
  fits : ((a : ℕ) → Fits w a) → (a : ℕ) → Fits written a

listed_formals : (f : tree.Formal) (xs : List tree.Formal) → AllByRecursion IsShortFormal (f ∷ xs) →
    (ts : List Lexeme) → Are ts (listed_tokens formal_tokens (f ∷ xs)) → (rest : List Need) (w : Written rest) → FormalsBuilt f xs ts rest w
listed_formals f xs is ts are rest w =
    let two = parts ts (formal_tokens f) (flat_map (λ x. comma ++ formal_tokens x) xs) are in
    let m = more_formals xs is.1 two.second two.back rest w in
    let b = formal_built f is.0 two.first two.front (part MoreFormals 0 ∷ rest) m.written in
    record {
      written = b.written;
      spelled = b.spelled ∙ (ap (λ (us : List Lexeme). two.first ++ us) m.spelled ∙ spelled_two ts two.first two.second (spelling w) two.whole);
      stands = items_stand f xs (values b.written).0 (values b.written).1.0 b.stands (ap (λ (v : Values (part MoreFormals 0 ∷ rest)). v.0.items) b.others ∙ m.stands);
      others = ap (λ (v : Values (part MoreFormals 0 ∷ rest)). v.1) b.others ∙ m.others;
      fits = λ h a. b.fits (λ d. m.fits h d) a;
    }

some_formals : (f : tree.Formal) (xs : List tree.Formal) → AllByRecursion IsShortFormal (f ∷ xs) → (ts : List Lexeme) →
    Are ts (listed_tokens formal_tokens (f ∷ xs)) → (rest : List Need) (w : Written rest) → GroupBuilt SomeFormals (λ v. v.items ≡ f ∷ xs) ts rest w
some_formals f xs is ts are rest w =
    let b = listed_formals f xs is ts are rest w in
    record { written = grouped b.written; spelled = b.spelled; stands = b.stands; others = b.others; fits = b.fits }

pub all_formals : (xs : List tree.Formal) → AllByRecursion IsShortFormal xs → (ts : List Lexeme) →
    Are ts (listed_tokens formal_tokens xs) → (rest : List Need) (w : Written rest) → GroupBuilt Formals (λ v. v.items ≡ xs) ts rest w
all_formals [] is ts are rest w = record { written = lacking no_items refl w; spelled = nothing_spelled ts (spelling w) are; stands = refl; others = refl; fits = λ h a. h a }
all_formals (f ∷ xs) is ts are rest w =
    let b = listed_formals f xs is ts are rest w in
    record { written = grouped b.written; spelled = b.spelled; stands = b.stands; others = b.others; fits = b.fits }

-- ---- outputs

pub formal_outputs_built : (xs : List tree.Formal) → AllByRecursion IsShortFormal xs → (ts : List Lexeme) →
    Are ts (outputs_tokens formal_tokens xs) → (rest : List Need) (w : Written rest) → PartBuilt FormalOutputs (λ v. v.items ≡ xs) ts rest w
unfolding symbol_terminal
formal_outputs_built [] is ts are rest w = record { written = left_out no_items refl w; spelled = nothing_spelled ts (spelling w) are; stands = refl; others = refl; fits = λ h a. h a }
formal_outputs_built (x ∷ xs) is ts are rest w =
    let two = parts ts ((arrow ++ open_parenthesis) ++ listed_tokens formal_tokens (x ∷ xs)) close_parenthesis are in
    let one = parts two.first (arrow ++ open_parenthesis) (listed_tokens formal_tokens (x ∷ xs)) two.front in
    let begin = parts one.first arrow open_parenthesis one.front in
    let t = single begin.first arrow_bare begin.front in
    let v = single begin.second (bare_symbol 40) begin.back in
    let u = single two.second (bare_symbol 41) two.back in
    let opens : terminal t.token ≡ g.opening g.formal_outputs = terminal_is t.token arrow_bare t.is in
    let next : terminal v.token ≡ OpenParenthesis = terminal_is v.token (bare_symbol 40) v.is in
    let closes : terminal u.token ≡ CloseParenthesis = terminal_is u.token (bare_symbol 41) u.is in
    let b = some_formals x xs is one.second one.back (mark CloseParenthesis ∷ rest) (marked u.token closes w) in
    record {
      written = chosen g.formal_outputs t.token opens (marked v.token next b.written);
      spelled = ap (λ (us : List Lexeme). t.token ∷ v.token ∷ us) b.spelled ∙ outputs_spelled ts one.first one.second
          two.first two.second begin.first begin.second t.token v.token u.token (spelling w) two.whole one.whole begin.whole t.whole v.whole u.whole;
      stands = b.stands;
      others = b.others;
      fits = λ h a. (omega arith, (omega arith, b.fits (λ k. (omega arith, h k)) a));
    }
