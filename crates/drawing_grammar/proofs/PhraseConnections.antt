-- The phrases of canonical connections, one and several.
use Rattle.std.proofs.Common.{◌≡◌, ℕ, Bool, true, false, List, [], ◌∷◌, ◌++◌, map, refl, sym, ap, ◌∙◌, arith, append_assoc}
use Rattle.std.specs.Prelude.{codes}
use Rattle.std.specs.List.{join_by, flat_map, AllByRecursion}
use Rattle.scald_base.specs.declared.refusal.Place.{Place}
use Rattle.drawing_tree.specs.Tree as tree
use Rattle.drawing_tree.specs.Places.{unplaced_connection}
use Rattle.drawing_grammar.specs.declared.terminal.Terminal.TheVariants.{Word}
use Rattle.drawing_grammar.specs.Lexeme.{Lexeme, terminal, symbol_terminal, word_terminal}
use Rattle.drawing_grammar.specs.Grammar.{Group, Need, part, group, Term, MoreTerms, Hold, MoreConns, SomeConns, Conns}
use Rattle.drawing_grammar.specs.Grammar as g
use Rattle.drawing_grammar.specs.Sketch.{GroupMeaning, Values, Placed, connection}
use Rattle.drawing_grammar.specs.Written.{Written, chosen, worded, left_out, grouped, lacking, spelling, values}
use Rattle.drawing_grammar.proofs.Leaves as leaf
use Rattle.drawing_grammar.proofs.CanonicalTokens.{word, comma, ampersand, exclamation, term_tokens, hold_tokens, connection_tokens, listed_tokens}
use Rattle.drawing_grammar.proofs.Drawable.{HasOne}
use Rattle.drawing_grammar.proofs.Matching.{Are, parts, single, terminal_is, text_is}
use Rattle.drawing_grammar.proofs.PhraseSteps.{Fits, bare_symbol, cons_stands, spelled_item, spelled_two}
use Rattle.drawing_grammar.proofs.PhraseConnection.{IsShortItem, PartBuilt, term_built, nothing_spelled}

pub record IsShortConnection (c : tree.Connection) : Type 0 where
  pub some : HasOne c.terms
  pub terms : AllByRecursion (λ t. IsShortItem t.item) c.terms

pub record GroupBuilt (p : Group) (good : GroupMeaning p → Type 0) (ts : List Lexeme) (rest : List Need) (w : Written rest) : Type 0 where
  pub written : Written (group p 0 ∷ rest)
  pub spelled : spelling written ≡ ts ++ spelling w
  pub stands : good (values written).0
  pub others : (values written).1 ≡ values w
  pub fits : ((a : ℕ) → Fits w a) → (a : ℕ) → Fits written a

-- ---- small steps

connection_stands : (x : tree.Term) (xs : List tree.Term) (hold : Bool) (place : Place) (first : Placed tree.Term) (more : List tree.Term)
    (held : Bool) → first.item ≡ x → more ≡ xs → held ≡ hold →
    unplaced_connection (connection first more held) ≡ unplaced_connection (record { terms = x ∷ xs; hold = hold; place = place })
connection_stands x xs hold place first more held e f h = rw (e, f, h) refl

pair_spelled : (ts first second : List Lexeme) (t u : Lexeme) (rest : List Lexeme) → ts ≡ first ++ second → first ≡ t ∷ [] → second ≡ u ∷ [] → t ∷ u ∷ rest ≡ ts ++ rest
pair_spelled ts first second t u rest a b c = rw (a, b, c) refl

three_spelled : (ts first second before last rest : List Lexeme) → ts ≡ before ++ last → before ≡ first ++ second → first ++ (second ++ (last ++ rest)) ≡ ts ++ rest
three_spelled ts first second before last rest a b = rw (a, b) (sym (append_assoc (first ++ second) last rest ∙ append_assoc first second (last ++ rest)))

-- ---- the terms of a connection

more_terms : (xs : List tree.Term) → AllByRecursion (λ t. IsShortItem t.item) xs → (ts : List Lexeme) →
    Are ts (flat_map (λ t. ampersand ++ term_tokens t) xs) → (rest : List Need) (w : Written rest) → PartBuilt MoreTerms (λ v. v ≡ xs) ts rest w
unfolding symbol_terminal
more_terms [] is ts are rest w = record { written = left_out [] refl w; spelled = nothing_spelled ts (spelling w) are; stands = refl; others = refl; fits = λ f a. f a }
more_terms (x ∷ xs) is ts are rest w =
    let two = parts ts (ampersand ++ term_tokens x) (flat_map (λ t. ampersand ++ term_tokens t) xs) are in
    let one = parts two.first ampersand (term_tokens x) two.front in
    let t = single one.first (bare_symbol 38) one.front in
    let opens : terminal t.token ≡ g.opening g.next_term = terminal_is t.token (bare_symbol 38) t.is in
    let m = more_terms xs is.1 two.second two.back rest w in
    let b = term_built x.minus x.item is.0 one.second one.back (part MoreTerms 0 ∷ rest) m.written in
    record {
      written = chosen g.next_term t.token opens b.written;
      spelled = ap (λ (us : List Lexeme). t.token ∷ us) (b.spelled ∙ ap (λ (us : List Lexeme). one.second ++ us) m.spelled)
          ∙ spelled_item ts one.first one.second two.first two.second t.token (spelling w) two.whole one.whole t.whole;
      stands = cons_stands x xs (values b.written).0.item (values b.written).1.0 b.stands (ap (λ (v : Values (part MoreTerms 0 ∷ rest)). v.0) b.others ∙ m.stands);
      others = ap (λ (v : Values (part MoreTerms 0 ∷ rest)). v.1) b.others ∙ m.others;
      fits = λ f a. (omega arith, b.fits (λ c. m.fits f c) a);
    }

hold_built : (hold : Bool) (ts : List Lexeme) → Are ts (hold_tokens hold) → (rest : List Need) (w : Written rest) → PartBuilt Hold (λ v. v ≡ hold) ts rest w
unfolding symbol_terminal word_terminal
hold_built false ts are rest w = record { written = left_out false refl w; spelled = nothing_spelled ts (spelling w) are; stands = refl; others = refl; fits = λ f a. f a }
hold_built true ts are rest w =
    let two = parts ts exclamation (word (codes "H")) are in
    let t = single two.first (bare_symbol 33) two.front in
    let u = single two.second (leaf.word (codes "H")) two.back in
    let opens : terminal t.token ≡ g.opening g.hold = terminal_is t.token (bare_symbol 33) t.is in
    let next : terminal u.token ≡ Word = terminal_is u.token (leaf.word (codes "H")) u.is in
    record {
      written = chosen g.hold t.token opens (worded u.token next (text_is u.token (leaf.word (codes "H")) u.is) w);
      spelled = pair_spelled ts two.first two.second t.token u.token (spelling w) two.whole t.whole u.whole;
      stands = refl;
      others = refl;
      fits = λ f a. (omega arith, (omega arith, f a));
    }

-- ---- one connection

-- its terms and its mark, before what follows it
record ConnectionBuilt (c : tree.Connection) (ts : List Lexeme) (rest : List Need) (w : Written rest) : Type 0 where
  written : Written (part Term 0 ∷ part MoreTerms 0 ∷ part Hold 0 ∷ rest)
  spelled : spelling written ≡ ts ++ spelling w
  stands : unplaced_connection (connection (values written).0 (values written).1.0 (values written).1.1.0) ≡ unplaced_connection c
  others : (values written).1.1.1 ≡ values w
  fits : ((a : ℕ) → Fits w a) → (a : ℕ) → Fits written a

connection_built_of : (xs : List tree.Term) (hold : Bool) (place : Place) → HasOne xs → AllByRecursion (λ t. IsShortItem t.item) xs →
    (ts : List Lexeme) → Are ts (join_by term_tokens ampersand xs ++ hold_tokens hold) →
    (rest : List Need) (w : Written rest) → ConnectionBuilt (record { terms = xs; hold = hold; place = place }) ts rest w
connection_built_of [] hold place some is ts are rest w = absurd some
connection_built_of (x ∷ xs) hold place some is ts are rest w =
    let two = parts ts (term_tokens x ++ flat_map (λ t. ampersand ++ term_tokens t) xs) (hold_tokens hold) are in
    let one = parts two.first (term_tokens x) (flat_map (λ t. ampersand ++ term_tokens t) xs) two.front in
    let h = hold_built hold two.second two.back rest w in
    let m = more_terms xs is.1 one.second one.back (part Hold 0 ∷ rest) h.written in
    let b = term_built x.minus x.item is.0 one.first one.front (part MoreTerms 0 ∷ part Hold 0 ∷ rest) m.written in
    let more : (values b.written).1.0 ≡ xs = ap (λ (v : Values (part MoreTerms 0 ∷ part Hold 0 ∷ rest)). v.0) b.others ∙ m.stands in
    let behind : (values b.written).1.1 ≡ values h.written = ap (λ (v : Values (part MoreTerms 0 ∷ part Hold 0 ∷ rest)). v.1) b.others ∙ m.others in
    record {
      written = b.written;
      spelled = b.spelled ∙ ap (λ (us : List Lexeme). one.first ++ us) (m.spelled ∙ ap (λ (us : List Lexeme). one.second ++ us) h.spelled)
          ∙ three_spelled ts one.first one.second two.first two.second (spelling w) two.whole one.whole;
      stands = connection_stands x xs hold place (values b.written).0 (values b.written).1.0 (values b.written).1.1.0 b.stands more (ap (λ (v : Values (part Hold 0 ∷ rest)). v.0) behind ∙ h.stands);
      others = ap (λ (v : Values (part Hold 0 ∷ rest)). v.1) behind ∙ h.others;
      fits = λ f a. b.fits (λ c. m.fits (λ d. h.fits f d) c) a;
    }

connection_built : (c : tree.Connection) → IsShortConnection c → (ts : List Lexeme) → Are ts (connection_tokens c) → (rest : List Need) (w : Written rest) → ConnectionBuilt c ts rest w
connection_built c is ts are rest w = connection_built_of c.terms c.hold c.place is.some is.terms ts are rest w

-- ---- several

-- They are the same connections, places aside.
abbrev pub AreConnections : List tree.Connection → List tree.Connection → Type 0
AreConnections cs v = map unplaced_connection v ≡ map unplaced_connection cs

more_connections : (cs : List tree.Connection) → AllByRecursion IsShortConnection cs → (ts : List Lexeme) → Are ts
    (flat_map (λ c. comma ++ connection_tokens c) cs) → (rest : List Need) (w : Written rest) → PartBuilt MoreConns (AreConnections cs) ts rest w
unfolding symbol_terminal
more_connections [] is ts are rest w = record { written = left_out [] refl w; spelled = nothing_spelled ts (spelling w) are; stands = refl; others = refl; fits = λ f a. f a }
more_connections (c ∷ cs) is ts are rest w =
    let two = parts ts (comma ++ connection_tokens c) (flat_map (λ d. comma ++ connection_tokens d) cs) are in
    let one = parts two.first comma (connection_tokens c) two.front in
    let t = single one.first (bare_symbol 44) one.front in
    let opens : terminal t.token ≡ g.opening g.next_conn = terminal_is t.token (bare_symbol 44) t.is in
    let m = more_connections cs is.1 two.second two.back rest w in
    let b = connection_built c is.0 one.second one.back (part MoreConns 0 ∷ rest) m.written in
    record {
      written = chosen g.next_conn t.token opens (grouped b.written);
      spelled = ap (λ (us : List Lexeme). t.token ∷ us) (b.spelled ∙ ap (λ (us : List Lexeme). one.second ++ us) m.spelled)
          ∙ spelled_item ts one.first one.second two.first two.second t.token (spelling w) two.whole one.whole t.whole;
      stands = cons_stands (unplaced_connection c) (map unplaced_connection cs)
          (unplaced_connection (connection (values b.written).0 (values b.written).1.0 (values b.written).1.1.0)) (map unplaced_connection
          (values b.written).1.1.1.0) b.stands (ap (λ (v : Values (part MoreConns 0 ∷ rest)). map unplaced_connection v.0) b.others ∙ m.stands);
      others = ap (λ (v : Values (part MoreConns 0 ∷ rest)). v.1) b.others ∙ m.others;
      fits = λ f a. (omega arith, b.fits (λ d. m.fits f d) a);
    }

-- the first one and those after it, whatever group they make
record ConnectionsBuilt (c : tree.Connection) (cs : List tree.Connection) (ts : List Lexeme) (rest : List Need) (w : Written rest) : Type 0 where
  written : Written (part Term 0 ∷ part MoreTerms 0 ∷ part Hold 0 ∷ part MoreConns 0 ∷ rest)
  spelled : spelling written ≡ ts ++ spelling w
  stands : AreConnections (c ∷ cs) (connection (values written).0 (values written).1.0 (values written).1.1.0 ∷ (values written).1.1.1.0)
  others : (values written).1.1.1.1 ≡ values w
  fits : ((a : ℕ) → Fits w a) → (a : ℕ) → Fits written a

listed_connections : (c : tree.Connection) (cs : List tree.Connection) → AllByRecursion IsShortConnection (c ∷ cs) →
    (ts : List Lexeme) → Are ts (listed_tokens connection_tokens (c ∷ cs)) → (rest : List Need) (w : Written rest) → ConnectionsBuilt c cs ts rest w
listed_connections c cs is ts are rest w =
    let two = parts ts (connection_tokens c) (flat_map (λ d. comma ++ connection_tokens d) cs) are in
    let m = more_connections cs is.1 two.second two.back rest w in
    let b = connection_built c is.0 two.first two.front (part MoreConns 0 ∷ rest) m.written in
    record {
      written = b.written;
      spelled = b.spelled ∙ (ap (λ (us : List Lexeme). two.first ++ us) m.spelled ∙ spelled_two ts two.first two.second (spelling w) two.whole);
      stands = cons_stands (unplaced_connection c) (map unplaced_connection cs)
          (unplaced_connection (connection (values b.written).0 (values b.written).1.0 (values b.written).1.1.0)) (map unplaced_connection
          (values b.written).1.1.1.0) b.stands (ap (λ (v : Values (part MoreConns 0 ∷ rest)). map unplaced_connection v.0) b.others ∙ m.stands);
      others = ap (λ (v : Values (part MoreConns 0 ∷ rest)). v.1) b.others ∙ m.others;
      fits = λ f a. b.fits (λ d. m.fits f d) a;
    }

pub some_connections : (c : tree.Connection) (cs : List tree.Connection) → AllByRecursion IsShortConnection (c ∷ cs) → (ts : List Lexeme) → Are ts
    (listed_tokens connection_tokens (c ∷ cs)) → (rest : List Need) (w : Written rest) → GroupBuilt SomeConns (AreConnections (c ∷ cs)) ts rest w
some_connections c cs is ts are rest w =
    let b = listed_connections c cs is ts are rest w in
    record { written = grouped b.written; spelled = b.spelled; stands = b.stands; others = b.others; fits = b.fits }

pub all_connections : (cs : List tree.Connection) → AllByRecursion IsShortConnection cs → (ts : List Lexeme) →
    Are ts (listed_tokens connection_tokens cs) → (rest : List Need) (w : Written rest) → GroupBuilt Conns (AreConnections cs) ts rest w
all_connections [] is ts are rest w = record { written = lacking [] refl w; spelled = nothing_spelled ts (spelling w) are; stands = refl; others = refl; fits = λ f a. f a }
all_connections (c ∷ cs) is ts are rest w =
    let b = listed_connections c cs is ts are rest w in
    record { written = grouped b.written; spelled = b.spelled; stands = b.stands; others = b.others; fits = b.fits }
