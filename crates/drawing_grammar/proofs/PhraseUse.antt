-- The phrases of canonical delays, uses and wires.
use Rattle.std.proofs.Common.{◌≡◌, ℕ, List, [], ◌∷◌, ◌++◌, map, Option, Some, None, refl, sym, ap, ◌∙◌, arith, append_assoc}
use Rattle.std.specs.Prelude.{IfSome}
use Rattle.std.specs.List.{AllByRecursion}
use Rattle.drawing_tree.specs.Expression.{Expression}
use Rattle.drawing_tree.specs.Tree as tree
use Rattle.drawing_tree.specs.Places.{unplaced_connection, unplaced_use}
use Rattle.drawing_tree.specs.WellFormed.{IsFreeWord}
use Rattle.drawing_grammar.specs.declared.terminal.Terminal.TheVariants.{Colon, Semicolon, CloseBracket, OpenParenthesis, CloseParenthesis}
use Rattle.drawing_grammar.specs.declared.edition.Edition.{Edition}
use Rattle.drawing_grammar.specs.Lexeme.{Lexeme, terminal, symbol_terminal}
use Rattle.drawing_grammar.specs.Grammar.{Need, mark, fresh, part, group, Sum, Delay, Fall, Parameters, Outputs, Conns, Statement}
use Rattle.drawing_grammar.specs.Grammar as g
use Rattle.drawing_grammar.specs.Sketch.{Values, Delays, no_delays}
use Rattle.drawing_grammar.specs.Written.{Written, marked, token, chosen, left_out, spelling, values}
use Rattle.drawing_grammar.proofs.Leaves as leaf
use Rattle.drawing_grammar.proofs.CanonicalTokens.{word, colon, comma, semicolon, open_bracket, close_bracket, open_parenthesis, close_parenthesis, sum_tokens, bounds_tokens, fall_tokens, delay_tokens, params_tokens, inputs_tokens, outputs_tokens, connection_tokens, listed_tokens, use_tokens}
use Rattle.drawing_grammar.proofs.Drawable.{IsBeside}
use Rattle.drawing_grammar.proofs.Matching.{Are, parts, single, terminal_is, text_is, word_is_free}
use Rattle.drawing_grammar.proofs.PhraseSteps.{Fits, bare_symbol, spelled_one, spelled_middle, spelled_between, spelled_around}
use Rattle.drawing_grammar.proofs.PhraseConnection.{IsShort, PartBuilt, own_sum, nothing_spelled}
use Rattle.drawing_grammar.proofs.PhraseConnections.{IsShortConnection, all_connections}
use Rattle.drawing_grammar.proofs.PhraseParameters.{IsShortAssignment, params_built, outputs_built}

-- ---- delays

-- two sums with a colon between them
pub record BothBuilt (x y : Expression) (ts : List Lexeme) (rest : List Need) (w : Written rest) : Type 0 where
  pub written : Written (fresh ∷ group Sum 0 ∷ mark Colon ∷ fresh ∷ group Sum 0 ∷ rest)
  pub spelled : spelling written ≡ ts ++ spelling w
  pub first : (values written).0 ≡ x
  pub second : (values written).1.0 ≡ y
  pub others : (values written).1.1 ≡ values w
  pub fits : ((a : ℕ) → Fits w a) → (a : ℕ) → Fits written a

both_built : (x y : Expression) → IsShort x → IsShort y → (ts : List Lexeme) → Are ts (bounds_tokens x y) → (rest : List Need) (w : Written rest) → BothBuilt x y ts rest w
unfolding symbol_terminal
both_built x y p q ts are rest w =
    let two = parts ts (sum_tokens x ++ colon) (sum_tokens y) are in
    let min = parts two.first (sum_tokens x) colon two.front in
    let c = single min.second (bare_symbol 58) min.back in
    let middle : terminal c.token ≡ Colon = terminal_is c.token (bare_symbol 58) c.is in
    let greatest = own_sum y q two.second two.back rest w in
    let least = own_sum x p min.first min.front (mark Colon ∷ fresh ∷ group Sum 0 ∷ rest) (marked c.token middle greatest.written) in
    record {
      written = least.written;
      spelled = least.spelled ∙ (ap (λ (us : List Lexeme). min.first ++ c.token ∷ us) greatest.spelled
          ∙ spelled_middle ts min.first two.first min.second two.second c.token (spelling w) two.whole min.whole c.whole);
      first = least.stands;
      second = ap (λ (v : Values (fresh ∷ group Sum 0 ∷ rest)). v.0) least.others ∙ greatest.stands;
      others = ap (λ (v : Values (fresh ∷ group Sum 0 ∷ rest)). v.1) least.others ∙ greatest.others;
      fits = λ f a. least.fits (λ b. (omega arith, greatest.fits f b)) a;
    }

both_stand : (x y a b : Expression) → x ≡ a → y ≡ b → (let p : Option (Expression × Expression) = Some (x, y) in p) ≡ Some (a, b)
both_stand x y a b e f = rw (e, f) refl

fall_built : (fall : Option (Expression × Expression)) → IfSome fall (λ d. IsShort d.0 × IsShort d.1) →
    (ts : List Lexeme) → Are ts (fall_tokens fall) → (rest : List Need) (w : Written rest) → PartBuilt Fall (λ v. v ≡ fall) ts rest w
unfolding symbol_terminal
fall_built None is ts are rest w = record { written = left_out None refl w; spelled = nothing_spelled ts (spelling w) are; stands = refl; others = refl; fits = λ f c. f c }
fall_built (Some fall) is ts are rest w =
    let two = parts ts comma (bounds_tokens fall.0 fall.1) are in
    let t = single two.first (bare_symbol 44) two.front in
    let opens : terminal t.token ≡ g.opening g.fall = terminal_is t.token (bare_symbol 44) t.is in
    let both = both_built fall.0 fall.1 is.0 is.1 two.second two.back rest w in
    record {
      written = chosen g.fall t.token opens both.written;
      spelled = ap (λ (us : List Lexeme). t.token ∷ us) both.spelled ∙ spelled_one ts two.first two.second t.token (spelling w) two.whole t.whole;
      stands = both_stand (values both.written).0 (values both.written).1.0 fall.0 fall.1 both.first both.second;
      others = both.others;
      fits = λ f a. (omega arith, both.fits f a);
    }

abbrev pub AreDelays : Option (Expression × Expression) → Option (Expression × Expression) → Delays → Type 0
AreDelays delay fall v = (v.delay ≡ delay) × (v.fall ≡ fall)

delay_built : (delay fall : Option (Expression × Expression)) → tree.EachDelay IsShort delay fall → IsBeside delay fall →
    (ts : List Lexeme) → Are ts (delay_tokens delay fall) → (rest : List Need) (w : Written rest) → PartBuilt Delay (AreDelays delay fall) ts rest w
unfolding symbol_terminal
delay_built None fall is beside ts are rest w = record {
  written = left_out no_delays refl w;
  spelled =
      nothing_spelled ts (spelling w) are;
  stands = (refl, sym beside);
  others = refl;
  fits = λ f c. f c;
}
delay_built (Some delay) fall is beside ts are rest w =
    let all = parts ts (open_bracket ++ bounds_tokens delay.0 delay.1 ++ fall_tokens fall) close_bracket are in
    let two = parts all.first (open_bracket ++ bounds_tokens delay.0 delay.1) (fall_tokens fall) all.front in
    let one = parts two.first open_bracket (bounds_tokens delay.0 delay.1) two.front in
    let t = single one.first (bare_symbol 91) one.front in
    let u = single all.second (bare_symbol 93) all.back in
    let opens : terminal t.token ≡ g.opening g.delay = terminal_is t.token (bare_symbol 91) t.is in
    let closes : terminal u.token ≡ CloseBracket = terminal_is u.token (bare_symbol 93) u.is in
    let end = fall_built fall is.1 two.second two.back (mark CloseBracket ∷ rest) (marked u.token closes w) in
    let both = both_built delay.0 delay.1 is.0.0 is.0.1 one.second one.back (part Fall 0 ∷ mark CloseBracket ∷ rest) end.written in
    record {
      written = chosen g.delay t.token opens both.written;
      spelled = ap (λ (us : List Lexeme). t.token ∷ us) (both.spelled ∙ ap (λ (us : List Lexeme). one.second ++ us) end.spelled)
          ∙ spelled_around ts two.first two.second one.second all.first one.first all.second t.token u.token (spelling w) all.whole two.whole one.whole t.whole u.whole;
      stands = (
        both_stand (values both.written).0 (values both.written).1.0 delay.0 delay.1 both.first both.second,
        ap (λ (v : Values (part Fall 0 ∷ mark CloseBracket ∷ rest)). v.0) both.others ∙ end.stands,
      );
      others = ap (λ (v : Values (part Fall 0 ∷ mark CloseBracket ∷ rest)). v.1) both.others ∙ end.others;
      fits = λ f a. (omega arith, both.fits (λ b. end.fits (λ c. (omega arith, f c)) b) a);
    }

-- ---- uses

pub record IsShortUse (u : tree.UseStatement) : Type 0 where
  pub label : IsFreeWord u.label
  pub kind : IsFreeWord u.kind
  pub delays : tree.EachDelay IsShort u.delay u.fall
  pub beside : IsBeside u.delay u.fall
  pub params : AllByRecursion IsShortAssignment u.params
  pub ins : AllByRecursion IsShortConnection u.ins
  pub outs : AllByRecursion IsShortConnection u.outs

use_stands : (u v : tree.UseStatement) → v.label ≡ u.label → v.kind ≡ u.kind → v.delay ≡ u.delay → v.fall ≡ u.fall → v.params ≡ u.params →
    map unplaced_connection v.ins ≡ map unplaced_connection u.ins →
    map unplaced_connection v.outs ≡ map unplaced_connection u.outs → unplaced_use v ≡ unplaced_use u
use_stands u v a b c d e f h = rw (a, b, c, d, e, f, h) refl

use_spelled : (ts z0 semi z1 outs z2 ins z3 params z4 delay z5 kind label colons : List Lexeme) (t c k s : Lexeme) (rest : List Lexeme) →
    ts ≡ z0 ++ semi → z0 ≡ z1 ++ outs → z1 ≡ z2 ++ ins → z2 ≡ z3 ++ params → z3 ≡ z4 ++ delay →
    z4 ≡ z5 ++ kind → z5 ≡ label ++ colons → label ≡ t ∷ [] → colons ≡ c ∷ [] → kind ≡ k ∷ [] → semi ≡ s ∷ [] →
    t ∷ c ∷ k ∷ (delay ++ (params ++ (ins ++ (outs ++ s ∷ rest)))) ≡ ts ++ rest
use_spelled ts z0 semi z1 outs z2 ins z3 params z4 delay z5 kind label colons t c k s rest a b d e f gg h i j l m =
    rw (a, b, d, e, f, gg, h, i, j, l, m) (ap (λ (us : List Lexeme). t ∷ c ∷ k ∷ us) (sym (append_assoc (delay ++ params ++ ins ++ outs) (s ∷ []) rest
    ∙ (append_assoc (delay ++ params ++ ins) outs (s ∷ rest)
    ∙ (append_assoc (delay ++ params) ins (outs ++ s ∷ rest)
    ∙ append_assoc delay params (ins ++ (outs ++ s ∷ rest)))))))

-- a use, if n IFs and FORs are open
pub record UseBuilt (v : Edition) (u : tree.UseStatement) (n : ℕ) (ts : List Lexeme) (rest : List Need) (w : Written rest) : Type 0 where
  pub written : Written (part (Statement v) n ∷ rest)
  pub spelled : spelling written ≡ ts ++ spelling w
  pub found : tree.UseStatement
  pub is : (values written).0 ≡ tree.Use found
  pub same : unplaced_use found ≡ unplaced_use u
  pub others : (values written).1 ≡ values w
  pub fits : ((a : ℕ) → Fits w a) → (a : ℕ) → Fits written a

pub use_built : (edition : Edition) (u : tree.UseStatement) → IsShortUse u → (n : ℕ) (ts : List Lexeme) → Are ts (use_tokens u) → (rest : List Need) (w : Written rest) → UseBuilt edition u n ts rest w
unfolding symbol_terminal
use_built edition u is n ts are rest w =
    let outs_bare = outputs_tokens connection_tokens u.outs in
    let ins_bare = inputs_tokens connection_tokens u.ins in
    let p5 = word u.label ++ colon in
    let p4 = p5 ++ word u.kind in
    let p3 = p4 ++ delay_tokens u.delay u.fall in
    let p2 = p3 ++ params_tokens u.params in
    let p1 = p2 ++ ins_bare in
    let a0 = parts ts (p1 ++ outs_bare) semicolon are in
    let a1 = parts a0.first p1 outs_bare a0.front in
    let a2 = parts a1.first p2 ins_bare a1.front in
    let a3 = parts a2.first p3 (params_tokens u.params) a2.front in
    let a4 = parts a3.first p4 (delay_tokens u.delay u.fall) a3.front in
    let a5 = parts a4.first p5 (word u.kind) a4.front in
    let a6 = parts a5.first (word u.label) colon a5.front in
    let b0 = parts a2.second (open_parenthesis ++ listed_tokens connection_tokens u.ins) close_parenthesis a2.back in
    let b1 = parts b0.first open_parenthesis (listed_tokens connection_tokens u.ins) b0.front in
    let t = single a6.first (leaf.word u.label) a6.front in
    let c = single a6.second (bare_symbol 58) a6.back in
    let k = single a5.second (leaf.word u.kind) a5.back in
    let o = single b1.first (bare_symbol 40) b1.front in
    let x = single b0.second (bare_symbol 41) b0.back in
    let s = single a0.second (bare_symbol 59) a0.back in
    let colons : terminal c.token ≡ Colon = terminal_is c.token (bare_symbol 58) c.is in
    let opens : terminal o.token ≡ OpenParenthesis = terminal_is o.token (bare_symbol 40) o.is in
    let closes : terminal x.token ≡ CloseParenthesis = terminal_is x.token (bare_symbol 41) x.is in
    let ends : terminal s.token ≡ Semicolon = terminal_is s.token (bare_symbol 59) s.is in
    let outs = outputs_built u.outs is.outs a1.second a1.back (mark Semicolon ∷ rest) (marked s.token ends w) in
    let ins = all_connections u.ins is.ins b1.second b1.back (mark CloseParenthesis ∷ part Outputs 0 ∷ mark Semicolon ∷ rest) (marked x.token closes outs.written) in
    let params = params_built u.params is.params a3.second a3.back
    (mark OpenParenthesis ∷ group Conns 0 ∷ mark CloseParenthesis ∷ part Outputs 0 ∷ mark Semicolon ∷ rest) (marked o.token opens ins.written) in
    let delay = delay_built u.delay u.fall is.delays is.beside a4.second a4.back
    (part Parameters 0 ∷ mark OpenParenthesis ∷ group Conns 0 ∷ mark CloseParenthesis ∷ part Outputs 0 ∷ mark Semicolon ∷ rest) params.written in
    let v = values delay.written in
    let e1 : v.1 ≡ values params.written = delay.others in
    let e2 : v.1.1 ≡ values ins.written =
    ap (λ (y : Values (part Parameters 0 ∷ mark OpenParenthesis ∷ group
    Conns 0 ∷ mark CloseParenthesis ∷ part Outputs 0 ∷ mark Semicolon ∷ rest)). y.1) e1 ∙ params.others in
    let e3 : v.1.1.1 ≡ values outs.written = ap (λ (y : Values (group Conns 0 ∷ mark CloseParenthesis ∷ part Outputs 0 ∷ mark Semicolon ∷ rest)). y.1) e2 ∙ ins.others in
    let e4 : v.1.1.1.1 ≡ values w = ap (λ (y : Values (part Outputs 0 ∷ mark Semicolon ∷ rest)). y.1) e3 ∙ outs.others in
    let found : tree.UseStatement = record {
      label = t.token.text;
      kind = k.token.text;
      delay =
          v.0.delay;
      fall = v.0.fall;
      params = v.1.0.items;
      ins = v.1.1.0;
      outs = v.1.1.1.0;
      place = t.token.place;
    } in
    record {
      written = chosen g.use_ t.token (word_is_free t.token u.label t.is is.label) (marked c.token colons (token k.token (word_is_free k.token u.kind k.is is.kind) delay.written));
      spelled =
          ap (λ (us : List Lexeme). t.token ∷ c.token ∷ k.token ∷ us)
          (delay.spelled ∙ ap (λ (us : List Lexeme). a4.second ++ us)
          (params.spelled ∙ ap (λ (us : List Lexeme). a3.second ++ us)
          (ap (λ (us : List Lexeme). o.token ∷ us) (ins.spelled ∙ ap (λ (us : List Lexeme). b1.second ++ x.token ∷ us) outs.spelled)
          ∙ spelled_between a2.second b1.first b1.second b0.first b0.second o.token x.token (a1.second ++ s.token ∷ spelling w) b0.whole b1.whole o.whole x.whole)))
          ∙ use_spelled ts a0.first a0.second a1.first a1.second a2.first a2.second a3.first
          a3.second a4.first a4.second a5.first a5.second a6.first a6.second t.token c.token k.token s.token (spelling w)
          a0.whole a1.whole a2.whole a3.whole a4.whole a5.whole a6.whole t.whole c.whole k.whole s.whole;
      found = found;
      is = refl;
      same = use_stands u found (text_is t.token (leaf.word u.label) t.is) (text_is k.token (leaf.word u.kind) k.is) delay.stands.0 delay.stands.1
          (ap (λ (y : Values (part Parameters 0 ∷ mark OpenParenthesis ∷ group Conns 0 ∷ mark CloseParenthesis ∷ part Outputs 0 ∷ mark Semicolon ∷ rest)). y.0.items) e1 ∙ params.stands)
          (ap (λ (y : Values (group Conns 0 ∷ mark CloseParenthesis ∷ part Outputs 0 ∷ mark Semicolon ∷ rest)). map unplaced_connection y.0) e2 ∙ ins.stands)
          (ap (λ (y : Values (part Outputs 0 ∷ mark Semicolon ∷ rest)). map unplaced_connection y.0) e3 ∙ outs.stands);
      others = e4;
      fits = λ f a. (omega arith, (omega arith, (omega arith, delay.fits (λ b. params.fits (λ d. (omega arith, ins.fits (λ h. (omega arith, outs.fits (λ i. (omega arith, f i)) h)) d)) b) a)));
    }
