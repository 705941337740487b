-- Connections of a canonical text that is read are shallow.
use Rattle.std.proofs.Common.{◌≡◌, Bool, true, false, List, [], ◌∷◌, ◌++◌, None, refl, ap, ◌∙◌, append_assoc}
use Rattle.std.specs.Prelude.{codes, is_some}
use Rattle.std.specs.List.{AllByRecursion, flat_map, join_by}
use Rattle.assertion_syntax.specs.Name.{name_text}
use Rattle.drawing_tree.specs.Tree as tree
use Rattle.drawing_grammar.specs.declared.terminal.Keyword.TheVariants.{Hazard}
use Rattle.drawing_grammar.specs.declared.terminal.Terminal.{Terminal}
use Rattle.drawing_grammar.specs.declared.terminal.Terminal.TheVariants as token
use Rattle.drawing_grammar.specs.CanonicalDraws.{IsShallowItem, IsShallowConnection}
use Rattle.drawing_grammar.specs.Lexeme.{word_terminal, symbol_terminal}
use Rattle.drawing_grammar.specs.Grammar.{Need, mark, item, keyword, fresh, part, group}
use Rattle.drawing_grammar.specs.Grammar as g
use Rattle.drawing_grammar.specs.Machine.{choice}
use Rattle.drawing_grammar.proofs.Cutting.{Bare}
use Rattle.drawing_grammar.proofs.Leaves as leaf
use Rattle.drawing_grammar.proofs.CanonicalTokens.{comma, ampersand, close_parenthesis, range_tokens, item_tokens, minus_tokens, term_tokens, hold_tokens, connection_tokens, listed_tokens, inputs_tokens, outputs_tokens}
use Rattle.drawing_grammar.proofs.Drawable.{IsDrawnItem, IsDrawnTerm, IsDrawnConnection, HasOne}
use Rattle.drawing_grammar.proofs.LeftOver.{LeftOver, first_of, take_mark, take_keyword, take_choice, pass_part, into_group, into_leading, pass_group}
use Rattle.drawing_grammar.proofs.PhraseParameters.{arrow_bare}
use Rattle.drawing_grammar.proofs.PhraseSteps.{bare_symbol}
use Rattle.drawing_grammar.proofs.NestRange.{Held, shift, range_held}

-- ---- connections

atom_held : (x : tree.Item) → IsDrawnItem x → (more : List Bare) (rest : List Need) →
    choice g.Range (first_of more) ≡ None → LeftOver (item_tokens x ++ more)
    (part g.Atom 0 ∷ rest) → Held (IsShallowItem x) more rest
unfolding word_terminal
atom_held tree.Zero is more rest none b = record {
  holds = tt;
  left =
      (take_choice g.zero_atom 0 (leaf.word (codes "ZERO")) more rest refl b).left;
}
atom_held tree.One is more rest none b = record {
  holds = tt;
  left =
      (take_choice g.one_atom 0 (leaf.word (codes "ONE")) more rest refl b).left;
}
atom_held (tree.Named n range) is more rest none b =
    let r = range_held range is.1 more rest none (take_choice g.named_atom 0
    (leaf.name (name_text n)) (range_tokens range ++ more) rest refl b).left in
    record { holds = r.holds; left = r.left }

plain_held : (x : tree.Item) → IsDrawnItem x → (more : List Bare) (rest : List Need) →
    choice g.Range (first_of more) ≡ None → LeftOver (item_tokens x ++ more)
    (part g.Term 0 ∷ rest) → Held (IsShallowItem x) more rest
unfolding word_terminal
plain_held tree.Zero is more rest none b = record {
  holds = tt;
  left =
      (take_choice g.zero_term 0 (leaf.word (codes "ZERO")) more rest refl b).left;
}
plain_held tree.One is more rest none b = record {
  holds = tt;
  left =
      (take_choice g.one_term 0 (leaf.word (codes "ONE")) more rest refl b).left;
}
plain_held (tree.Named n range) is more rest none b =
    let r = range_held range is.1 more rest none (take_choice g.named_term 0
    (leaf.name (name_text n)) (range_tokens range ++ more) rest refl b).left in
    record { holds = r.holds; left = r.left }

term_held : (complemented : Bool) (x : tree.Item) → IsDrawnItem x →
    (more : List Bare) (rest : List Need) → choice g.Range (first_of more) ≡ None →
    LeftOver ((minus_tokens complemented ++ item_tokens x) ++ more) (part g.Term 0 ∷ rest) →
    Held (IsShallowItem x) more rest
unfolding symbol_terminal
term_held false x is more rest none b = plain_held x is more rest none b
term_held true x is more rest none b = atom_held x is more rest none
    (take_choice g.complement 0 (bare_symbol 45) (item_tokens x ++ more) rest refl b).left

-- What follows a connection, a parameter or a formal begins none of their parts.
pub record Ends (l : Terminal) : Type 0 where
  pub factors : choice g.Factors l ≡ None
  pub terms : choice g.Terms l ≡ None
  pub range : choice g.Range l ≡ None
  pub more_terms : choice g.MoreTerms l ≡ None
  pub hold : choice g.Hold l ≡ None

pub comma_ends : Ends token.Comma
comma_ends = record { factors = refl; terms = refl; range = refl; more_terms = refl; hold = refl }

pub parenthesis_ends : Ends token.CloseParenthesis
parenthesis_ends = record {
  factors = refl;
  terms = refl;
  range = refl;
  more_terms = refl;
  hold =
      refl;
}

pub brace_ends : Ends token.CloseBrace
brace_ends = record { factors = refl; terms = refl; range = refl; more_terms = refl; hold = refl }

hold_held : (hold : Bool) (more : List Bare) (rest : List Need) →
    choice g.Hold (first_of more) ≡ None → LeftOver (hold_tokens hold ++ more)
    (part g.Hold 0 ∷ rest) → LeftOver more rest
unfolding symbol_terminal word_terminal
hold_held false more rest none b = pass_part g.Hold 0 false more rest none refl b
hold_held true more rest none b =
    let o = take_choice g.hold 0 (bare_symbol 33) (leaf.word (codes "H") ∷ more) rest refl b in
    take_keyword (leaf.word (codes "H")) more Hazard rest refl refl o.left

abbrev more_tokens : List tree.Term → List Bare
more_tokens xs = flat_map (λ t. ampersand ++ term_tokens t) xs

-- what stands first after a term
after_hold : (p : g.Part) (hold : Bool) (more : List Bare) → choice p token.Exclamation ≡ None →
    choice p (first_of more) ≡ None → choice p (first_of (hold_tokens hold ++ more)) ≡ None
unfolding symbol_terminal
after_hold p false more e f = f
after_hold p true more e f = e

after_term : (p : g.Part) (xs : List tree.Term) (more : List Bare) → choice p token.Ampersand ≡ None →
    choice p (first_of more) ≡ None → choice p (first_of (more_tokens xs ++ more)) ≡ None
unfolding symbol_terminal
after_term p [] more e f = f
after_term p (x ∷ xs) more e f = e

more_held : (xs : List tree.Term) → AllByRecursion IsDrawnTerm xs →
    (more : List Bare) (rest : List Need) → choice g.MoreTerms (first_of more) ≡ None →
    choice g.Range (first_of more) ≡ None → LeftOver (more_tokens xs ++ more)
    (part g.MoreTerms 0 ∷ rest) → Held (AllByRecursion (λ t. IsShallowItem t.item) xs) more rest
unfolding symbol_terminal
more_held [] is more rest none range b = record {
  holds = tt;
  left =
      pass_part g.MoreTerms 0 [] more rest none refl b;
}
more_held (x ∷ xs) is more rest none range b =
    let o = take_choice g.next_term 0 (bare_symbol 38) ((term_tokens x ++ more_tokens xs) ++ more)
    rest refl b in
    let needs : List Need = part g.Term 0 ∷ part g.MoreTerms 0 ∷ rest in
    let one = term_held x.minus x.item is.0 (more_tokens xs ++ more) (part g.MoreTerms 0 ∷ rest)
    (after_term g.Range xs more refl range) (shift (term_tokens x) (more_tokens xs) more needs
    o.left) in
    let two = more_held xs is.1 more rest none range one.left in
    record { holds = (one.holds, two.holds); left = two.left }

connection_of : (xs : List tree.Term) (hold : Bool) → HasOne xs → AllByRecursion IsDrawnTerm xs →
    (more : List Bare) (rest : List Need) → Ends (first_of more) →
    LeftOver ((join_by term_tokens ampersand xs ++ hold_tokens hold) ++ more)
    (part g.Term 0 ∷ part g.MoreTerms 0 ∷ part g.Hold 0 ∷ rest) →
    Held (AllByRecursion (λ t. IsShallowItem t.item) xs) more rest
connection_of [] hold some is more rest ends b = absurd some
connection_of (x ∷ xs) hold some is more rest ends b =
    let needs : List Need = part g.Term 0 ∷ part g.MoreTerms 0 ∷ part g.Hold 0 ∷ rest in
    let held = hold_tokens hold in
    let y = shift (term_tokens x) (more_tokens xs) (held ++ more) needs
    (shift (term_tokens x ++ more_tokens xs) held more needs b) in
    let range = after_hold g.Range hold more refl ends.range in
    let one = term_held x.minus x.item is.0 (more_tokens xs ++ (held ++ more))
    (part g.MoreTerms 0 ∷ part g.Hold 0 ∷ rest) (after_term g.Range xs (held ++ more) refl
    range) y in
    let two = more_held xs is.1 (held ++ more) (part g.Hold 0 ∷ rest)
    (after_hold g.MoreTerms hold more refl ends.more_terms) range one.left in
    record { holds = (one.holds, two.holds); left = hold_held hold more rest ends.hold two.left }

connection_held : (c : tree.Connection) → IsDrawnConnection c →
    (more : List Bare) (rest : List Need) → Ends (first_of more) →
    LeftOver (connection_tokens c ++ more) (part g.Term 0 ∷ part g.MoreTerms 0 ∷ part g.Hold 0 ∷
    rest) → Held (IsShallowConnection c) more rest
connection_held c is more rest ends b = connection_of c.terms c.hold is.some is.terms more rest ends
    b

-- ---- lists, with a comma before each further item

abbrev pub further : {A : Type 0} → (A → List Bare) → List A → List Bare
further tokens xs = flat_map (λ x. comma ++ tokens x) xs

pub ends_further : {A : Type 0} (tokens : A → List Bare) (xs : List A) (more : List Bare) →
    Ends (first_of more) → Ends (first_of (further tokens xs ++ more))
unfolding symbol_terminal
ends_further tokens [] more e = e
ends_further tokens (x ∷ xs) more e = comma_ends

more_connections : (cs : List tree.Connection) → AllByRecursion IsDrawnConnection cs →
    (more : List Bare) (rest : List Need) → LeftOver (further connection_tokens cs ++
    (bare_symbol 41 ∷ more)) (part g.MoreConns 0 ∷ rest) →
    Held (AllByRecursion IsShallowConnection cs) (bare_symbol 41 ∷ more) rest
unfolding symbol_terminal
more_connections [] is more rest b = record {
  holds = tt;
  left =
      pass_part g.MoreConns 0 [] (bare_symbol 41 ∷ more) rest refl refl b;
}
more_connections (c ∷ cs) is more rest b =
    let end = bare_symbol 41 ∷ more in
    let tail = further connection_tokens cs in
    let o = take_choice g.next_conn 0 (bare_symbol 44) ((connection_tokens c ++ tail) ++ end) rest
    refl b in
    let x = shift (connection_tokens c) tail end (group g.Conn 0 ∷ part g.MoreConns 0 ∷ rest)
    o.left in
    let i = into_group g.Conn 0 (connection_tokens c ++ (tail ++ end)) (part g.MoreConns 0 ∷ rest)
    refl x in
    let one = connection_held c is.0 (tail ++ end) (part g.MoreConns 0 ∷ rest)
    (ends_further connection_tokens cs end parenthesis_ends) i in
    let two = more_connections cs is.1 more rest one.left in
    record { holds = (one.holds, two.holds); left = two.left }

-- the first connection and those after it, up to a parenthesis
listed : (c : tree.Connection) (cs : List tree.Connection) →
    AllByRecursion IsDrawnConnection (c ∷ cs) → (more : List Bare) (rest : List Need) →
    LeftOver (listed_tokens connection_tokens (c ∷ cs) ++ (bare_symbol 41 ∷ more))
    (part g.Term 0 ∷ part g.MoreTerms 0 ∷ part g.Hold 0 ∷ part g.MoreConns 0 ∷ rest) →
    Held (AllByRecursion IsShallowConnection (c ∷ cs)) (bare_symbol 41 ∷ more) rest
unfolding symbol_terminal
listed c cs is more rest b =
    let end = bare_symbol 41 ∷ more in
    let tail = further connection_tokens cs in
    let needs : List Need = part g.Term 0 ∷ part g.MoreTerms 0 ∷ part g.Hold 0 ∷ part g.MoreConns 0
    ∷ rest in
    let one = connection_held c is.0 (tail ++ end) (part g.MoreConns 0 ∷ rest)
    (ends_further connection_tokens cs end parenthesis_ends)
    (shift (connection_tokens c) tail end needs b) in
    let two = more_connections cs is.1 more rest one.left in
    record { holds = (one.holds, two.holds); left = two.left }

-- ---- inputs and outputs

item_starts : (x : tree.Item) (more : List Bare) → is_some
    (choice g.Term (first_of (item_tokens x ++ more))) ≡ true
unfolding word_terminal
item_starts tree.Zero more = refl
item_starts tree.One more = refl
item_starts (tree.Named n range) more = refl

term_starts : (complemented : Bool) (x : tree.Item) (more : List Bare) →
    is_some (choice g.Term (first_of ((minus_tokens complemented ++ item_tokens x) ++ more))) ≡ true
unfolding symbol_terminal
term_starts false x more = item_starts x more
term_starts true x more = refl

-- A connection begins with a term.
terms_start : (xs : List tree.Term) (hold : Bool) → HasOne xs → (tail more : List Bare) →
    is_some
    (choice g.Term (first_of (((join_by term_tokens ampersand xs ++ hold_tokens hold) ++ tail) ++
    more))) ≡ true
terms_start [] hold some tail more = absurd some
terms_start (x ∷ xs) hold some tail more =
    let held = hold_tokens hold in
    let front = term_tokens x in
    let ts = more_tokens xs in
    ap (λ (bs : List Bare). is_some (choice g.Term (first_of bs)))
    (append_assoc ((front ++ ts) ++ held) tail more ∙ (append_assoc (front ++ ts) held
    (tail ++ more) ∙ append_assoc front ts (held ++ (tail ++ more))))
    ∙ term_starts x.minus x.item (ts ++ (held ++ (tail ++ more)))

starts_term : (c : tree.Connection) (cs : List tree.Connection) → IsDrawnConnection c →
    (more : List Bare) →
    is_some (choice g.Term (first_of (listed_tokens connection_tokens (c ∷ cs) ++ more))) ≡ true
starts_term c cs is more = terms_start c.terms c.hold is.some (further connection_tokens cs) more

pub inputs_held : (cs : List tree.Connection) → AllByRecursion IsDrawnConnection cs →
    (more : List Bare) (rest : List Need) → LeftOver (inputs_tokens connection_tokens cs ++ more)
    (mark token.OpenParenthesis ∷ group g.Conns 0 ∷ mark token.CloseParenthesis ∷ rest) →
    Held (AllByRecursion IsShallowConnection cs) more rest
unfolding symbol_terminal
inputs_held [] is more rest b =
    let end = bare_symbol 41 ∷ more in
    let x = take_mark (bare_symbol 40) end token.OpenParenthesis
    (group g.Conns 0 ∷ mark token.CloseParenthesis ∷ rest) refl b in
    record {
      holds = tt;
      left = take_mark (bare_symbol 41) more token.CloseParenthesis rest refl
          (pass_group g.Conns 0 [] end (mark token.CloseParenthesis ∷ rest) refl refl x);
    }
inputs_held (c ∷ cs) is more rest b =
    let inner = listed_tokens connection_tokens (c ∷ cs) in
    let needs : List Need = group g.Conns 0 ∷ mark token.CloseParenthesis ∷ rest in
    let x = shift inner close_parenthesis more needs (take_mark (bare_symbol 40)
    ((inner ++ close_parenthesis) ++ more) token.OpenParenthesis needs refl b) in
    let i = into_leading g.Conns 0 (inner ++ (bare_symbol 41 ∷ more))
    (mark token.CloseParenthesis ∷ rest) refl (starts_term c cs is.0 (bare_symbol 41 ∷ more)) x in
    let r = listed c cs is more (mark token.CloseParenthesis ∷ rest) i in
    record {
      holds = r.holds;
      left = take_mark (bare_symbol 41) more token.CloseParenthesis rest refl
          r.left;
    }

pub outputs_held : (cs : List tree.Connection) → AllByRecursion IsDrawnConnection cs →
    (more : List Bare) (rest : List Need) → choice g.Outputs (first_of more) ≡ None →
    LeftOver (outputs_tokens connection_tokens cs ++ more) (part g.Outputs 0 ∷ rest) →
    Held (AllByRecursion IsShallowConnection cs) more rest
unfolding symbol_terminal
outputs_held [] is more rest none b = record {
  holds = tt;
  left =
      pass_part g.Outputs 0 [] more rest none refl b;
}
outputs_held (c ∷ cs) is more rest none b =
    let inner = listed_tokens connection_tokens (c ∷ cs) in
    let needs : List Need = group g.SomeConns 0 ∷ mark token.CloseParenthesis ∷ rest in
    let o = take_choice g.outputs 0 arrow_bare (bare_symbol 40 ∷
    ((inner ++ close_parenthesis) ++ more)) rest refl b in
    let x = shift inner close_parenthesis more needs (take_mark (bare_symbol 40)
    ((inner ++ close_parenthesis) ++ more) token.OpenParenthesis needs refl o.left) in
    let i = into_group g.SomeConns 0 (inner ++ (bare_symbol 41 ∷ more))
    (mark token.CloseParenthesis ∷ rest) refl x in
    let r = listed c cs is more (mark token.CloseParenthesis ∷ rest) i in
    record {
      holds = r.holds;
      left = take_mark (bare_symbol 41) more token.CloseParenthesis rest refl
          r.left;
    }
