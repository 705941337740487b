-- The phrases of canonical cases.
use Rattle.std.proofs.Common.{◌≡◌, ℕ, ◌-◌, ◌<◌, ◌^◌, min, pos, ℤ, List, [], ◌∷◌, ◌++◌, map, refl, ap, ◌∙◌, arith}
use Rattle.std.specs.Prelude.{codes}
use Rattle.std.specs.List.{flat_map, AllByRecursion}
use Rattle.scald_base.specs.declared.refusal.Place.{Place}
use Rattle.assertion_syntax.specs.declared.name.SignalName.{SignalName}
use Rattle.assertion_syntax.specs.Name.{name_text}
use Rattle.drawing_tree.specs.declared.drawing.CaseEntry.{CaseEntry}
use Rattle.drawing_tree.specs.declared.drawing.CaseStmt.{CaseStmt}
use Rattle.drawing_tree.specs.Places.{unplaced_entry, unplaced_case}
use Rattle.drawing_grammar.specs.declared.terminal.Terminal.TheVariants.{Number, Equals, Greater, Semicolon}
use Rattle.drawing_grammar.specs.Header.{natural}
use Rattle.drawing_grammar.specs.Lexeme.{Lexeme, terminal, symbol_terminal, word_terminal, kind_number, number_of}
use Rattle.drawing_grammar.specs.Grammar.{Need, mark, part, group, Entry, MoreEntries, Entries, CaseStatement, Cases}
use Rattle.drawing_grammar.specs.Grammar as g
use Rattle.drawing_grammar.specs.Sketch.{Values, signal_of, capped}
use Rattle.drawing_grammar.specs.Written.{Written, marked, token, chosen, left_out, grouped, lacking, spelling, values}
use Rattle.drawing_grammar.proofs.Cutting.{Bare}
use Rattle.drawing_grammar.proofs.Leaves as leaf
use Rattle.drawing_grammar.proofs.CanonicalTokens.{word, name, number, comma, less, greater, equals, semicolon, listed_tokens, entry_tokens, case_tokens}
use Rattle.drawing_grammar.proofs.Drawable.{HasOne, IsDrawnEntry, IsDrawnCase}
use Rattle.drawing_grammar.proofs.Matching.{bare, Are, parts, single, terminal_is}
use Rattle.drawing_grammar.proofs.PhraseSteps.{bare_symbol, cons_stands, spelled_item, spelled_two, spelled_between}
use Rattle.drawing_grammar.proofs.PhraseConnection.{PartBuilt, signal_again, nothing_spelled}
use Rattle.drawing_grammar.proofs.PhraseConnections.{GroupBuilt}

-- ---- numbers

pub number_is : (t : Lexeme) (n : ℕ) → bare t ≡ leaf.number n → number_of t ≡ pos n
number_is t n e = ap (λ (b : Bare). kind_number b.kind) e

capped_again : (t : Lexeme) (n : ℕ) → n < 2 ^ 32 → bare t ≡ leaf.number n → capped t ≡ n
capped_again t n small e =
    let cut : min n (2 ^ 32 - 1) ≡ n = omega arith in
    ap (λ (k : ℤ). min (natural k) (2 ^ 32 - 1)) (number_is t n e) ∙ cut

-- ---- one entry

entry_stands : (e : CaseEntry) (n : SignalName) (bit value : ℕ) (place : Place) → n ≡ e.name →
    bit ≡ e.bit → value ≡ e.value → unplaced_entry (record { name = n; bit = bit; value = value; place = place }) ≡ unplaced_entry e
entry_stands e n bit value place a b c = rw (a, b, c) refl

entry_spelled : (ts z0 value z1 middle z2 bit named opening greater_ equals_ : List Lexeme) (t l i c q v : Lexeme) (rest : List Lexeme) →
    ts ≡ z0 ++ value → z0 ≡ z1 ++ middle → z1 ≡ z2 ++ bit → z2 ≡ named ++ opening → middle ≡ greater_ ++ equals_ →
    named ≡ t ∷ [] → opening ≡ l ∷ [] → bit ≡ i ∷ [] → greater_ ≡ c ∷ [] → equals_ ≡ q ∷ [] → value ≡ v ∷ [] →
    t ∷ l ∷ i ∷ c ∷ q ∷ v ∷ rest ≡ ts ++ rest
entry_spelled ts z0 value z1 middle z2 bit named opening greater_ equals_ t l i c q v rest a b d e f h j k m n o = rw (a, b, d, e, f, h, j, k, m, n, o) refl

entry_built : (e : CaseEntry) → IsDrawnEntry e → (ts : List Lexeme) → Are ts (entry_tokens e) →
    (rest : List Need) (w : Written rest) → PartBuilt Entry (λ v. unplaced_entry v ≡ unplaced_entry e) ts rest w
unfolding symbol_terminal
entry_built e is ts are rest w =
    let p2 = name (name_text e.name) ++ less in
    let p1 = p2 ++ number e.bit in
    let a0 = parts ts (p1 ++ (greater ++ equals)) (number e.value) are in
    let a1 = parts a0.first p1 (greater ++ equals) a0.front in
    let a2 = parts a1.first p2 (number e.bit) a1.front in
    let a3 = parts a2.first (name (name_text e.name)) less a2.front in
    let a4 = parts a1.second greater equals a1.back in
    let t = single a3.first (leaf.name (name_text e.name)) a3.front in
    let l = single a3.second (bare_symbol 60) a3.back in
    let i = single a2.second (leaf.number e.bit) a2.back in
    let c = single a4.first (bare_symbol 62) a4.front in
    let q = single a4.second (bare_symbol 61) a4.back in
    let v = single a0.second (leaf.number e.value) a0.back in
    let opens : terminal t.token ≡ g.opening g.entry = terminal_is t.token (leaf.name (name_text e.name)) t.is in
    let begins : terminal l.token ≡ g.opening g.index = terminal_is l.token (bare_symbol 60) l.is in
    let bits : terminal i.token ≡ Number = terminal_is i.token (leaf.number e.bit) i.is in
    let closes : terminal c.token ≡ Greater = terminal_is c.token (bare_symbol 62) c.is in
    let equal : terminal q.token ≡ Equals = terminal_is q.token (bare_symbol 61) q.is in
    let valued : terminal v.token ≡ Number = terminal_is v.token (leaf.number e.value) v.is in
    record {
      written = chosen g.entry t.token opens (chosen g.index l.token begins (token i.token bits (marked c.token closes (marked q.token equal (token v.token valued w)))));
      spelled = entry_spelled ts a0.first a0.second a1.first a1.second a2.first a2.second a3.first a3.second a4.first a4.second t.token l.token i.token c.token q.token v.token (spelling w)
          a0.whole a1.whole a2.whole a3.whole a4.whole t.whole l.whole i.whole c.whole q.whole v.whole;
      stands = entry_stands e (signal_of t.token) (capped i.token) (capped v.token) t.token.place
          (signal_again t.token e.name is.name t.is) (capped_again i.token e.bit is.bit i.is) (capped_again v.token e.value is.value v.is);
      others = refl;
      fits = λ f a. (omega arith, (omega arith, (omega arith, (omega arith, (omega arith, (omega arith, f a))))));
    }

-- ---- several

-- They are these entries, places aside.
abbrev AreEntries : List CaseEntry → List CaseEntry → Type 0
AreEntries es v = map unplaced_entry v ≡ map unplaced_entry es

more_entries : (es : List CaseEntry) → AllByRecursion IsDrawnEntry es → (ts : List Lexeme) →
    Are ts (flat_map (λ e. comma ++ entry_tokens e) es) → (rest : List Need) (w : Written rest) → PartBuilt MoreEntries (AreEntries es) ts rest w
unfolding symbol_terminal
more_entries [] is ts are rest w = record { written = left_out [] refl w; spelled = nothing_spelled ts (spelling w) are; stands = refl; others = refl; fits = λ f a. f a }
more_entries (e ∷ es) is ts are rest w =
    let two = parts ts (comma ++ entry_tokens e) (flat_map (λ x. comma ++ entry_tokens x) es) are in
    let one = parts two.first comma (entry_tokens e) two.front in
    let t = single one.first (bare_symbol 44) one.front in
    let opens : terminal t.token ≡ g.opening g.next_entry = terminal_is t.token (bare_symbol 44) t.is in
    let m = more_entries es is.1 two.second two.back rest w in
    let b = entry_built e is.0 one.second one.back (part MoreEntries 0 ∷ rest) m.written in
    record {
      written = chosen g.next_entry t.token opens b.written;
      spelled = ap (λ (us : List Lexeme). t.token ∷ us) (b.spelled ∙ ap (λ (us : List Lexeme). one.second ++ us) m.spelled)
          ∙ spelled_item ts one.first one.second two.first two.second t.token (spelling w) two.whole one.whole t.whole;
      stands = cons_stands (unplaced_entry e) (map unplaced_entry es) (unplaced_entry (values b.written).0) (map unplaced_entry
          (values b.written).1.0) b.stands (ap (λ (v : Values (part MoreEntries 0 ∷ rest)). map unplaced_entry v.0) b.others ∙ m.stands);
      others = ap (λ (v : Values (part MoreEntries 0 ∷ rest)). v.1) b.others ∙ m.others;
      fits = λ f a. (omega arith, b.fits (λ d. m.fits f d) a);
    }

entries_built : (es : List CaseEntry) → HasOne es → AllByRecursion IsDrawnEntry es → (ts : List Lexeme) →
    Are ts (listed_tokens entry_tokens es) → (rest : List Need) (w : Written rest) → GroupBuilt Entries (AreEntries es) ts rest w
entries_built [] some is ts are rest w = absurd some
entries_built (e ∷ es) some is ts are rest w =
    let two = parts ts (entry_tokens e) (flat_map (λ x. comma ++ entry_tokens x) es) are in
    let m = more_entries es is.1 two.second two.back rest w in
    let b = entry_built e is.0 two.first two.front (part MoreEntries 0 ∷ rest) m.written in
    record {
      written = grouped b.written;
      spelled = b.spelled ∙ (ap (λ (us : List Lexeme). two.first ++ us) m.spelled ∙ spelled_two ts two.first two.second (spelling w) two.whole);
      stands = cons_stands (unplaced_entry e) (map unplaced_entry es) (unplaced_entry (values b.written).0) (map unplaced_entry
          (values b.written).1.0) b.stands (ap (λ (v : Values (part MoreEntries 0 ∷ rest)). map unplaced_entry v.0) b.others ∙ m.stands);
      others = ap (λ (v : Values (part MoreEntries 0 ∷ rest)). v.1) b.others ∙ m.others;
      fits = λ f a. b.fits (λ d. m.fits f d) a;
    }

-- ---- cases

case_stands : (c : CaseStmt) (es : List CaseEntry) (place : Place) → AreEntries c.entries es → unplaced_case (record { entries = es; place = place }) ≡ unplaced_case c
case_stands c es place a = rw a refl

case_built : (c : CaseStmt) → IsDrawnCase c → (ts : List Lexeme) → Are ts (case_tokens c) →
    (rest : List Need) (w : Written rest) → PartBuilt CaseStatement (λ v. unplaced_case v ≡ unplaced_case c) ts rest w
unfolding symbol_terminal word_terminal
case_built c is ts are rest w =
    let a0 = parts ts (word (codes "CASE") ++ listed_tokens entry_tokens c.entries) semicolon are in
    let a1 = parts a0.first (word (codes "CASE")) (listed_tokens entry_tokens c.entries) a0.front in
    let t = single a1.first (leaf.word (codes "CASE")) a1.front in
    let s = single a0.second (bare_symbol 59) a0.back in
    let opens : terminal t.token ≡ g.opening g.case_ = terminal_is t.token (leaf.word (codes "CASE")) t.is in
    let ends : terminal s.token ≡ Semicolon = terminal_is s.token (bare_symbol 59) s.is in
    let b = entries_built c.entries is.some is.entries a1.second a1.back (mark Semicolon ∷ rest) (marked s.token ends w) in
    record {
      written = chosen g.case_ t.token opens b.written;
      spelled = ap (λ (us : List Lexeme). t.token ∷ us) b.spelled ∙ spelled_between ts a1.first a1.second a0.first a0.second t.token s.token (spelling w) a0.whole a1.whole t.whole s.whole;
      stands = case_stands c (values b.written).0 t.token.place b.stands;
      others = b.others;
      fits = λ f a. (omega arith, b.fits (λ d. (omega arith, f d)) a);
    }

-- They are these cases, places aside.
abbrev pub AreCases : List CaseStmt → List CaseStmt → Type 0
AreCases cs v = map unplaced_case v ≡ map unplaced_case cs

pub cases_built : (cs : List CaseStmt) → AllByRecursion IsDrawnCase cs → (ts : List Lexeme) →
    Are ts (flat_map case_tokens cs) → (rest : List Need) (w : Written rest) → GroupBuilt Cases (AreCases cs) ts rest w
cases_built [] is ts are rest w = record { written = lacking [] refl w; spelled = nothing_spelled ts (spelling w) are; stands = refl; others = refl; fits = λ f a. f a }
cases_built (c ∷ cs) is ts are rest w =
    let two = parts ts (case_tokens c) (flat_map case_tokens cs) are in
    let more = cases_built cs is.1 two.second two.back rest w in
    let b = case_built c is.0 two.first two.front (group Cases 0 ∷ rest) more.written in
    record {
      written = grouped b.written;
      spelled = b.spelled ∙ (ap (λ (us : List Lexeme). two.first ++ us) more.spelled ∙ spelled_two ts two.first two.second (spelling w) two.whole);
      stands = cons_stands (unplaced_case c) (map unplaced_case cs) (unplaced_case (values b.written).0) (map unplaced_case (values b.written).1.0)
          b.stands (ap (λ (v : Values (group Cases 0 ∷ rest)). map unplaced_case v.0) b.others ∙ more.stands);
      others = ap (λ (v : Values (group Cases 0 ∷ rest)). v.1) b.others ∙ more.others;
      fits = λ f a. b.fits (λ d. more.fits f d) a;
    }
