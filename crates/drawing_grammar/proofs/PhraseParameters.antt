-- The phrases of canonical parameters, delays and outputs.
use Rattle.std.proofs.Common.{◌≡◌, ℕ, List, [], ◌∷◌, ◌++◌, refl, sym, ap, ◌∙◌, arith, append_assoc}
use Rattle.std.specs.Prelude.{codes}
use Rattle.std.specs.List.{flat_map, AllByRecursion}
use Rattle.scald_lex.specs.declared.token.TokenKind.TheVariants as kind
use Rattle.drawing_tree.specs.Expression.{Expression}
use Rattle.drawing_tree.specs.Tree as tree
use Rattle.drawing_tree.specs.WellFormed.{IsFreeWord}
use Rattle.drawing_grammar.specs.declared.terminal.Terminal.TheVariants.{Equals, CloseBrace, OpenParenthesis, CloseParenthesis}
use Rattle.drawing_grammar.specs.Lexeme.{Lexeme, terminal, symbol_terminal}
use Rattle.drawing_grammar.specs.Grammar.{Need, mark, part, Assign, MoreAssigns, Parameters, Outputs}
use Rattle.drawing_grammar.specs.Grammar as g
use Rattle.drawing_grammar.specs.Sketch.{Values, no_items}
use Rattle.drawing_grammar.specs.Written.{Written, marked, chosen, left_out, grouped, spelling, values}
use Rattle.drawing_grammar.proofs.Cutting.{Bare}
use Rattle.drawing_grammar.proofs.Leaves as leaf
use Rattle.drawing_grammar.proofs.CanonicalTokens.{word, comma, equals, open_brace, close_brace, arrow, open_parenthesis, close_parenthesis, sum_tokens, assignment_tokens, params_tokens, connection_tokens, outputs_tokens, listed_tokens}
use Rattle.drawing_grammar.proofs.Matching.{Are, parts, single, terminal_is, text_is, word_is_free}
use Rattle.drawing_grammar.proofs.PhraseSteps.{bare_symbol, items_stand, spelled_between, spelled_item, spelled_two, spelled_pair}
use Rattle.drawing_grammar.proofs.PhraseConnection.{IsShort, PartBuilt, own_sum, nothing_spelled}
use Rattle.drawing_grammar.proofs.PhraseConnections.{IsShortConnection, AreConnections, some_connections}

pub record IsShortAssignment (a : tree.Assignment) : Type 0 where
  pub name : IsFreeWord a.name
  pub value : IsShort a.value

-- ---- one parameter

pub assigned : (a : tree.Assignment) (name : List ℕ) (value : Expression) → name ≡ a.name → value ≡ a.value → (let x : tree.Assignment = record { name = name; value = value } in x) ≡ a
assigned a name value e f = rw (e, f) refl

assign_built : (a : tree.Assignment) → IsShortAssignment a → (ts : List Lexeme) → Are ts (assignment_tokens a) → (rest : List Need) (w : Written rest) → PartBuilt Assign (λ v. v.item ≡ a) ts rest w
unfolding symbol_terminal
assign_built a is ts are rest w =
    let two = parts ts (word a.name ++ equals) (sum_tokens a.value) are in
    let one = parts two.first (word a.name) equals two.front in
    let t = single one.first (leaf.word a.name) one.front in
    let u = single one.second (bare_symbol 61) one.back in
    let next : terminal u.token ≡ Equals = terminal_is u.token (bare_symbol 61) u.is in
    let s = own_sum a.value is.value two.second two.back rest w in
    record {
      written = chosen g.assign t.token (word_is_free t.token a.name t.is is.name) (marked u.token next s.written);
      spelled = ap (λ (us : List Lexeme). t.token ∷ u.token ∷ us) s.spelled
          ∙ spelled_pair ts one.first one.second two.first two.second t.token u.token (spelling w) two.whole one.whole t.whole u.whole;
      stands = assigned a t.token.text (values s.written).0 (text_is t.token (leaf.word a.name) t.is) s.stands;
      others = s.others;
      fits = λ f c. (omega arith, (omega arith, s.fits f c));
    }

-- ---- several

more_assigns : (xs : List tree.Assignment) → AllByRecursion IsShortAssignment xs → (ts : List Lexeme) → Are ts
    (flat_map (λ a. comma ++ assignment_tokens a) xs) → (rest : List Need) (w : Written rest) → PartBuilt MoreAssigns (λ v. v.items ≡ xs) ts rest w
unfolding symbol_terminal
more_assigns [] is ts are rest w = record { written = left_out no_items refl w; spelled = nothing_spelled ts (spelling w) are; stands = refl; others = refl; fits = λ f c. f c }
more_assigns (a ∷ xs) is ts are rest w =
    let two = parts ts (comma ++ assignment_tokens a) (flat_map (λ b. comma ++ assignment_tokens b) xs) are in
    let one = parts two.first comma (assignment_tokens a) two.front in
    let t = single one.first (bare_symbol 44) one.front in
    let opens : terminal t.token ≡ g.opening g.next_assign = terminal_is t.token (bare_symbol 44) t.is in
    let m = more_assigns xs is.1 two.second two.back rest w in
    let b = assign_built a is.0 one.second one.back (part MoreAssigns 0 ∷ rest) m.written in
    record {
      written = chosen g.next_assign t.token opens b.written;
      spelled = ap (λ (us : List Lexeme). t.token ∷ us) (b.spelled ∙ ap (λ (us : List Lexeme). one.second ++ us) m.spelled)
          ∙ spelled_item ts one.first one.second two.first two.second t.token (spelling w) two.whole one.whole t.whole;
      stands = items_stand a xs (values b.written).0 (values b.written).1.0 b.stands (ap (λ (v : Values (part MoreAssigns 0 ∷ rest)). v.0.items) b.others ∙ m.stands);
      others = ap (λ (v : Values (part MoreAssigns 0 ∷ rest)). v.1) b.others ∙ m.others;
      fits = λ f c. (omega arith, b.fits (λ d. m.fits f d) c);
    }

-- ---- in braces

pub params_built : (xs : List tree.Assignment) → AllByRecursion IsShortAssignment xs → (ts : List Lexeme) →
    Are ts (params_tokens xs) → (rest : List Need) (w : Written rest) → PartBuilt Parameters (λ v. v.items ≡ xs) ts rest w
unfolding symbol_terminal
params_built [] is ts are rest w = record { written = left_out no_items refl w; spelled = nothing_spelled ts (spelling w) are; stands = refl; others = refl; fits = λ f c. f c }
params_built (a ∷ xs) is ts are rest w =
    let two = parts ts (open_brace ++ listed_tokens assignment_tokens (a ∷ xs)) close_brace are in
    let one = parts two.first open_brace (listed_tokens assignment_tokens (a ∷ xs)) two.front in
    let inner = parts one.second (assignment_tokens a) (flat_map (λ b. comma ++ assignment_tokens b) xs) one.back in
    let t = single one.first (bare_symbol 123) one.front in
    let u = single two.second (bare_symbol 125) two.back in
    let opens : terminal t.token ≡ g.opening g.parameters = terminal_is t.token (bare_symbol 123) t.is in
    let closes : terminal u.token ≡ CloseBrace = terminal_is u.token (bare_symbol 125) u.is in
    let m = more_assigns xs is.1 inner.second inner.back (mark CloseBrace ∷ rest) (marked u.token closes w) in
    let b = assign_built a is.0 inner.first inner.front (part MoreAssigns 0 ∷ mark CloseBrace ∷ rest) m.written in
    record {
      written = chosen g.parameters t.token opens (grouped b.written);
      spelled = ap (λ (us : List Lexeme). t.token ∷ us) (b.spelled ∙ (ap (λ (us : List Lexeme). inner.first ++ us) m.spelled
          ∙ spelled_two one.second inner.first inner.second (u.token ∷ spelling w) inner.whole))
          ∙ spelled_between ts one.first one.second two.first two.second t.token u.token (spelling w) two.whole one.whole t.whole u.whole;
      stands = items_stand a xs (values b.written).0 (values b.written).1.0 b.stands (ap (λ (v : Values (part MoreAssigns 0 ∷ mark CloseBrace ∷ rest)). v.0.items) b.others ∙ m.stands);
      others = ap (λ (v : Values (part MoreAssigns 0 ∷ mark CloseBrace ∷ rest)). v.1) b.others ∙ m.others;
      fits = λ f c. (omega arith, b.fits (λ d. m.fits (λ k. (omega arith, f k)) d) c);
    }

-- ---- outputs

abbrev pub arrow_bare : Bare
arrow_bare = record { kind = kind.Arrow; text = codes "->" }

pub outputs_spelled : (ts first second before last one two : List Lexeme) (t v u : Lexeme) (rest : List Lexeme) → ts ≡ before ++ last →
    before ≡ first ++ second → first ≡ one ++ two → one ≡ t ∷ [] → two ≡ v ∷ [] → last ≡ u ∷ [] → t ∷ v ∷ (second ++ u ∷ rest) ≡ ts ++ rest
outputs_spelled ts first second before last one two t v u rest a b c d e f = rw (a, b, c, d, e, f) (ap (λ (us : List Lexeme). t ∷ v ∷ us) (sym (append_assoc second (u ∷ []) rest)))

pub outputs_built : (cs : List tree.Connection) → AllByRecursion IsShortConnection cs → (ts : List Lexeme) →
    Are ts (outputs_tokens connection_tokens cs) → (rest : List Need) (w : Written rest) → PartBuilt Outputs (AreConnections cs) ts rest w
unfolding symbol_terminal
outputs_built [] is ts are rest w = record { written = left_out [] refl w; spelled = nothing_spelled ts (spelling w) are; stands = refl; others = refl; fits = λ f c. f c }
outputs_built (x ∷ cs) is ts are rest w =
    let two = parts ts ((arrow ++ open_parenthesis) ++ listed_tokens connection_tokens (x ∷ cs)) close_parenthesis are in
    let one = parts two.first (arrow ++ open_parenthesis) (listed_tokens connection_tokens (x ∷ cs)) two.front in
    let begin = parts one.first arrow open_parenthesis one.front in
    let t = single begin.first arrow_bare begin.front in
    let v = single begin.second (bare_symbol 40) begin.back in
    let u = single two.second (bare_symbol 41) two.back in
    let opens : terminal t.token ≡ g.opening g.outputs = terminal_is t.token arrow_bare t.is in
    let next : terminal v.token ≡ OpenParenthesis = terminal_is v.token (bare_symbol 40) v.is in
    let closes : terminal u.token ≡ CloseParenthesis = terminal_is u.token (bare_symbol 41) u.is in
    let b = some_connections x cs is one.second one.back (mark CloseParenthesis ∷ rest) (marked u.token closes w) in
    record {
      written = chosen g.outputs t.token opens (marked v.token next b.written);
      spelled = ap (λ (us : List Lexeme). t.token ∷ v.token ∷ us) b.spelled ∙ outputs_spelled ts one.first one.second
          two.first two.second begin.first begin.second t.token v.token u.token (spelling w) two.whole one.whole begin.whole t.whole v.whole u.whole;
      stands = b.stands;
      others = b.others;
      fits = λ f c. (omega arith, (omega arith, b.fits (λ k. (omega arith, f k)) c));
    }
