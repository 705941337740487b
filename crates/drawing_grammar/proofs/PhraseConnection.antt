-- The phrases of canonical ranges, terms and connections.
use Rattle.std.proofs.Common.{◌≡◌, ℕ, ◌+◌, ◌-◌, ◌≤◌, Bool, true, false, List, [], ◌∷◌, ◌++◌, length, take, Option, Some, None, refl, sym, ap, subst, ◌∙◌, arith, length-append}
use Rattle.std.specs.Prelude.{codes, IfSome, ⊤}
use Rattle.std.proofs.Math.Seq.{take-append_seam}
use Rattle.drawing_tree.specs.Expression.{Expression}
use Rattle.assertion_syntax.specs.declared.name.SignalName.{SignalName}
use Rattle.assertion_syntax.specs.Name.{IsName, name_text}
use Rattle.assertion_syntax.specs.Reading.{name_at, either}
use Rattle.assertion_syntax.proofs.Names.{name_again}
use Rattle.drawing_tree.specs.Tree as tree
use Rattle.drawing_grammar.specs.Nesting.{sum_nesting, operators}
use Rattle.drawing_grammar.specs.declared.terminal.Terminal.TheVariants.{Greater}
use Rattle.drawing_grammar.specs.declared.terminal.Terminal.TheVariants.{Name as NameTerminal}
use Rattle.drawing_grammar.specs.Lexeme.{Lexeme, terminal, symbol_terminal, word_terminal}
use Rattle.drawing_grammar.specs.Grammar.{Part, Need, mark, fresh, part, group, Sum, RangeEnd, Range, Atom, Term}
use Rattle.drawing_grammar.specs.Grammar as g
use Rattle.drawing_grammar.specs.Sketch.{Meaning, Values, unquoted, blank, signal_named, signal_of, Placed}
use Rattle.drawing_grammar.specs.Written.{Written, marked, begun, chosen, left_out, grouped, spelling, values, limit}
use Rattle.drawing_grammar.proofs.Leaves as leaf
use Rattle.drawing_grammar.proofs.CanonicalTokens.{name, minus, colon, less, greater, sum_tokens, last_tokens, range_tokens, signal_tokens, item_tokens, minus_tokens}
use Rattle.drawing_grammar.proofs.Drawable.{IsDrawn}
use Rattle.drawing_grammar.proofs.Matching.{bare, Are, parts, single, terminal_is, text_is}
use Rattle.drawing_grammar.proofs.PhraseSteps.{Fits, bare_symbol, spelled_one, spelled_single, spelled_around}
use Rattle.drawing_grammar.proofs.PhraseForms.{forms}

-- ---- within the limits

pub record IsShort (x : Expression) : Type 0 where
  pub drawn : IsDrawn x
  pub nests : sum_nesting x ≤ limit
  pub few : operators x ≤ limit

pub record IsShortRange (range : tree.Range) : Type 0 where
  pub first : IsShort range.first
  pub last : IfSome range.last IsShort

abbrev pub IsShortItem : tree.Item → Type 0
IsShortItem tree.Zero = ⊤
IsShortItem tree.One = ⊤
IsShortItem (tree.Named n range) = IsName n × IfSome range IsShortRange

-- ---- what is built

-- The tokens are within the limits wherever what stands after them is.
pub record PartBuilt (p : Part) (good : Meaning p → Type 0) (ts : List Lexeme) (rest : List Need) (w : Written rest) : Type 0 where
  pub written : Written (part p 0 ∷ rest)
  pub spelled : spelling written ≡ ts ++ spelling w
  pub stands : good (values written).0
  pub others : (values written).1 ≡ values w
  pub fits : ((a : ℕ) → Fits w a) → (a : ℕ) → Fits written a

pub record OwnSum (x : Expression) (ts : List Lexeme) (rest : List Need) (w : Written rest) : Type 0 where
  pub written : Written (fresh ∷ group Sum 0 ∷ rest)
  pub spelled : spelling written ≡ ts ++ spelling w
  pub stands : (values written).0 ≡ x
  pub others : (values written).1 ≡ values w
  pub fits : ((a : ℕ) → Fits w a) → (a : ℕ) → Fits written a

pub own_sum : (x : Expression) → IsShort x → (ts : List Lexeme) → Are ts (sum_tokens x) → (rest : List Need) (w : Written rest) → OwnSum x ts rest w
own_sum x is ts are rest w =
    let b = (forms x is.drawn).sum 0 ts are rest (left_out (λ left. left) refl w) in
    let nests = is.nests in
    let few = is.few in
    record {
      written = begun (grouped b.written);
      spelled = b.spelled;
      stands = b.stands;
      others = b.others;
      fits = λ f a. b.fits 0 (omega arith) (omega arith) (f (0 + operators x));
    }

pub nothing_spelled : (ts rest : List Lexeme) → Are ts [] → rest ≡ ts ++ rest
nothing_spelled [] rest e = refl
nothing_spelled (t ∷ ts) rest e = absurd cc

-- ---- ranges

last_built : (last : Option Expression) → IfSome last IsShort → (ts : List Lexeme) → Are ts (last_tokens last) → (rest : List Need) (w : Written rest) → PartBuilt RangeEnd (λ v. v ≡ last) ts rest w
unfolding symbol_terminal
last_built None is ts are rest w = record { written = left_out None refl w; spelled = nothing_spelled ts (spelling w) are; stands = refl; others = refl; fits = λ f a. f a }
last_built (Some x) is ts are rest w =
    let two = parts ts colon (sum_tokens x) are in
    let t = single two.first (bare_symbol 58) two.front in
    let opens : terminal t.token ≡ g.opening g.last = terminal_is t.token (bare_symbol 58) t.is in
    let s = own_sum x is two.second two.back rest w in
    record {
      written = chosen g.last t.token opens s.written;
      spelled = ap (λ (us : List Lexeme). t.token ∷ us) s.spelled ∙ spelled_one ts two.first two.second t.token (spelling w) two.whole t.whole;
      stands = ap (λ (y : Expression). Some y) s.stands;
      others = s.others;
      fits = λ f a. (omega arith, s.fits f a);
    }

range_stands : (range : tree.Range) (first : Expression) (last : Option Expression) → first ≡ range.first →
    last ≡ range.last → Some (let r : tree.Range = record { first = first; last = last } in r) ≡ Some range
range_stands range first last e f = rw (e, f) refl

pub range_built : (range : Option tree.Range) → IfSome range IsShortRange → (ts : List Lexeme) →
    Are ts (range_tokens range) → (rest : List Need) (w : Written rest) → PartBuilt Range (λ v. v ≡ range) ts rest w
unfolding symbol_terminal
range_built None is ts are rest w = record { written = left_out None refl w; spelled = nothing_spelled ts (spelling w) are; stands = refl; others = refl; fits = λ f a. f a }
range_built (Some range) is ts are rest w =
    let two = parts ts (less ++ sum_tokens range.first ++ last_tokens range.last) greater are in
    let one = parts two.first (less ++ sum_tokens range.first) (last_tokens range.last) two.front in
    let begin = parts one.first less (sum_tokens range.first) one.front in
    let t = single begin.first (bare_symbol 60) begin.front in
    let u = single two.second (bare_symbol 62) two.back in
    let opens : terminal t.token ≡ g.opening g.range = terminal_is t.token (bare_symbol 60) t.is in
    let closes : terminal u.token ≡ Greater = terminal_is u.token (bare_symbol 62) u.is in
    let end = last_built range.last is.last one.second one.back (mark Greater ∷ rest) (marked u.token closes w) in
    let s = own_sum range.first is.first begin.second begin.back (part RangeEnd 0 ∷ mark Greater ∷ rest) end.written in
    record {
      written = chosen g.range t.token opens s.written;
      spelled = ap (λ (us : List Lexeme). t.token ∷ us) (s.spelled ∙ ap (λ (us : List Lexeme). begin.second ++ us) end.spelled)
          ∙ spelled_around ts one.first one.second begin.second two.first begin.first two.second t.token u.token (spelling w) two.whole one.whole begin.whole t.whole u.whole;
      stands = range_stands range (values s.written).0 (values s.written).1.0 s.stands (ap (λ (v : Values (part RangeEnd 0 ∷ mark Greater ∷ rest)). v.0) s.others ∙ end.stands);
      others = ap (λ (v : Values (part RangeEnd 0 ∷ mark Greater ∷ rest)). v.1) s.others ∙ end.others;
      fits = λ f a. (omega arith, s.fits (λ b. end.fits (λ c. (omega arith, f c)) b) a);
    }

-- ---- names

pub unquoted_again : (s : List ℕ) → unquoted (codes "\"" ++ s ++ codes "\"") ≡ s
unquoted_again s =
    let e : length (34 ∷ (s ++ 34 ∷ [])) - 1 - 1 ≡ length s = omega (arith, length-append s (34 ∷ [])) in
    ap (λ (n : ℕ). take n (s ++ 34 ∷ [])) e ∙ take-append_seam s (34 ∷ [])

pub signal_again : (t : Lexeme) (n : SignalName) → IsName n → bare t ≡ leaf.name (name_text n) → signal_of t ≡ n
unfolding signal_named
signal_again t n is e =
    let text : unquoted t.text ≡ name_text n = ap unquoted (text_is t (leaf.name (name_text n)) e) ∙ unquoted_again (name_text n) in
    let read : name_at (unquoted t.text) ≡ Some n = ap name_at text ∙ name_again (name_text n) n (record { is_name = is; spelled = refl }) in
    ap (λ (o : Option SignalName). either o blank (λ x. x)) read

-- ---- terms

named_stands : (n : SignalName) (range : Option tree.Range) (m : SignalName) (other : Option tree.Range) → m ≡ n → other ≡ range → tree.Named m other ≡ tree.Named n range
named_stands n range m other e f = rw (e, f) refl

term_stands : (complemented : Bool) (item other : tree.Item) → item ≡ other → (let x : tree.Term = record { minus = complemented; item = item } in x) ≡ record { minus = complemented; item = other }
term_stands complemented item other e = rw e refl

-- a name and its range, after whatever begins with the name
name_range : (n : SignalName) (range : Option tree.Range) → IsShortItem (tree.Named n range) →
    (p : Part) (good : Meaning p → Type 0) (ts : List Lexeme) → Are ts (signal_tokens n range) → (rest : List Need) (w : Written rest) →
    ((t : Lexeme) → terminal t ≡ NameTerminal → signal_of t ≡ n → (r : Written (part Range 0 ∷ rest)) → (values r).0 ≡ range →
    (values r).1 ≡ values w → (((a : ℕ) → Fits w a) → (a : ℕ) → Fits r a) → (us : List Lexeme) →
    spelling r ≡ us ++ spelling w → PartBuilt p good (t ∷ us) rest w) → PartBuilt p good ts rest w
name_range n range is p good ts are rest w go =
    let two = parts ts (name (name_text n)) (range_tokens range) are in
    let t = single two.first (leaf.name (name_text n)) two.front in
    let r = range_built range is.1 two.second two.back rest w in
    let whole : t.token ∷ two.second ≡ ts = sym (two.whole ∙ ap (λ (us : List Lexeme). us ++ two.second) t.whole) in
    subst (λ (us : List Lexeme). PartBuilt p good us rest w) whole
    (go t.token (terminal_is t.token (leaf.name (name_text n)) t.is) (signal_again t.token n is.0 t.is) r.written r.stands r.others r.fits two.second r.spelled)

atom_built : (item : tree.Item) → IsShortItem item → (ts : List Lexeme) → Are ts (item_tokens item) → (rest : List Need) (w : Written rest) → PartBuilt Atom (λ v. v ≡ item) ts rest w
unfolding word_terminal
atom_built tree.Zero is ts are rest w =
    let t = single ts (leaf.word (codes "ZERO")) are in
    record {
      written = chosen g.zero_atom t.token (terminal_is t.token (leaf.word (codes "ZERO")) t.is) w;
      spelled =
          spelled_single ts t.token (spelling w) t.whole;
      stands = refl;
      others = refl;
      fits = λ f a. (omega arith, f a);
    }
atom_built tree.One is ts are rest w =
    let t = single ts (leaf.word (codes "ONE")) are in
    record {
      written = chosen g.one_atom t.token (terminal_is t.token (leaf.word (codes "ONE")) t.is) w;
      spelled =
          spelled_single ts t.token (spelling w) t.whole;
      stands = refl;
      others = refl;
      fits = λ f a. (omega arith, f a);
    }
atom_built (tree.Named n range) is ts are rest w =
    name_range n range is Atom (λ v. v ≡ tree.Named n range) ts are rest w (λ t opens named r stands others fits us spelled. record {
      written = chosen g.named_atom t opens r;
      spelled = ap (λ (vs : List Lexeme). t ∷ vs) spelled;
      stands = named_stands n range (signal_of t) (values r).0 named stands;
      others = others;
      fits = λ f a. (omega arith, fits f a);
    })

-- a term, wherever its first token stands
abbrev pub IsTerm : tree.Term → Placed tree.Term → Type 0
IsTerm x v = v.item ≡ x

plain_term : (item : tree.Item) → IsShortItem item → (ts : List Lexeme) → Are ts (item_tokens item) →
    (rest : List Need) (w : Written rest) → PartBuilt Term (IsTerm (record { minus = false; item = item })) ts rest w
unfolding word_terminal
plain_term tree.Zero is ts are rest w =
    let t = single ts (leaf.word (codes "ZERO")) are in
    record {
      written = chosen g.zero_term t.token (terminal_is t.token (leaf.word (codes "ZERO")) t.is) w;
      spelled =
          spelled_single ts t.token (spelling w) t.whole;
      stands = refl;
      others = refl;
      fits = λ f a. (omega arith, f a);
    }
plain_term tree.One is ts are rest w =
    let t = single ts (leaf.word (codes "ONE")) are in
    record {
      written = chosen g.one_term t.token (terminal_is t.token (leaf.word (codes "ONE")) t.is) w;
      spelled =
          spelled_single ts t.token (spelling w) t.whole;
      stands = refl;
      others = refl;
      fits = λ f a. (omega arith, f a);
    }
plain_term (tree.Named n range) is ts are rest w =
    name_range n range is Term (IsTerm (record { minus = false; item = tree.Named n range })) ts are rest w (λ t opens named r stands others fits us spelled. record {
      written = chosen g.named_term t opens r;
      spelled = ap (λ (vs : List Lexeme). t ∷ vs) spelled;
      stands = term_stands false (tree.Named (signal_of t) (values r).0) (tree.Named n range) (named_stands n range (signal_of t) (values r).0 named stands);
      others = others;
      fits = λ f a. (omega arith, fits f a);
    })

pub term_built : (complemented : Bool) (item : tree.Item) → IsShortItem item → (ts : List Lexeme) → Are ts (minus_tokens complemented
    ++ item_tokens item) → (rest : List Need) (w : Written rest) → PartBuilt Term (IsTerm (record { minus = complemented; item = item })) ts rest w
unfolding symbol_terminal
term_built false item is ts are rest w = plain_term item is ts are rest w
term_built true item is ts are rest w =
    let two = parts ts minus (item_tokens item) are in
    let t = single two.first (bare_symbol 45) two.front in
    let opens : terminal t.token ≡ g.opening g.complement = terminal_is t.token (bare_symbol 45) t.is in
    let b = atom_built item is two.second two.back rest w in
    record {
      written = chosen g.complement t.token opens b.written;
      spelled = ap (λ (us : List Lexeme). t.token ∷ us) b.spelled ∙ spelled_one ts two.first two.second t.token (spelling w) two.whole t.whole;
      stands = term_stands true (values b.written).0 item b.stands;
      others = b.others;
      fits = λ f a. (omega arith, b.fits f a);
    }
