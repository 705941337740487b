-- What is left of tokens that are read, once the first of them are taken.
use Rattle.std.proofs.Common.{◌≡◌, ℕ, ◌≤◌, Bool, true, false, not, nat_le, List, [], ◌∷◌, ◌++◌, map, Some, None, refl, sym, ap, ◌∙◌}
use Rattle.std.specs.Prelude.{is_some}
use Rattle.std.proofs.lemmas.Bool.{leb-true, leb-false, and_from}
use Rattle.drawing_grammar.specs.declared.terminal.Keyword.{Keyword}
use Rattle.drawing_grammar.specs.declared.terminal.Terminal.{Terminal}
use Rattle.drawing_grammar.specs.declared.terminal.Terminal.TheVariants as is
use Rattle.drawing_grammar.specs.Lexeme.{Lexeme, terminal_by}
use Rattle.drawing_grammar.specs.declared.terminal.Keyword.TheVariants.{Const, For}
use Rattle.drawing_grammar.specs.Grammar as g
use Rattle.drawing_grammar.specs.Grammar.{Part, Group, keyword_text, Need, mark, item, keyword, fresh, part, group, Choice, opening, following, lead, others, cost}
use Rattle.drawing_grammar.specs.Sketch.{Meaning, GroupMeaning, Values, front, behind, choice_value, group_value}
use Rattle.drawing_grammar.specs.Absent.{absent_value, absent_group}
use Rattle.drawing_grammar.specs.Written.{weight, counted, limit}
use Rattle.drawing_grammar.specs.Machine.{same, is_keyword, no_colon, choice, Verdict, Complete, Refused, given, verdict}
use Rattle.drawing_grammar.specs.Front.{first_terminal, first_choice, At}
use Rattle.drawing_grammar.proofs.Terminals.{is_that_keyword}
use Rattle.drawing_grammar.proofs.Choices.{is_constant, at_choice, no_loop_at}
use Rattle.drawing_grammar.proofs.Cutting.{Bare}
use Rattle.drawing_grammar.proofs.Matching.{bare, Are, terminal_is, text_is}
use Rattle.drawing_grammar.proofs.Moves.{mark_moves, item_moves, keyword_moves, enters, too_deep, skips, begins, always, leads_by, leads_on, skips_group}

-- Tokens that are these are read if these are needed, after some operators.
pub record LeftOver (bs : List Bare) (needs : List Need) : Type 0 where
  pub tokens : List Lexeme
  pub are : Are tokens bs
  pub count : ℕ
  pub values : Values needs
  pub read : verdict tokens needs count ≡ Complete values

record IsComplete {needs : List Need} (x : Verdict needs) : Type 0 where
  values : Values needs
  is : x ≡ Complete values

onward : (needs later : List Need) (f : Values later → Values needs) (y : Verdict later)
    (v : Values needs) → given {needs = needs} f y ≡ Complete v → IsComplete y
onward needs later f (Complete w) v e = record { values = w; is = refl }
onward needs later f (Refused r) v e = absurd cc

-- ---- the first token

record Headed (ts : List Lexeme) (x : Bare) (bs : List Bare) : Type 0 where
  token : Lexeme
  rest : List Lexeme
  whole : ts ≡ token ∷ rest
  is : bare token ≡ x
  back : Are rest bs

headed : (ts : List Lexeme) (x : Bare) (bs : List Bare) → Are ts (x ∷ bs) → Headed ts x bs
headed [] x bs e = absurd cc
headed (t ∷ ts) x bs e =
    let head : bare t ≡ x = cc in
    let tail : map bare ts ≡ bs = cc in
    record { token = t; rest = ts; whole = refl; is = head; back = tail }

-- what the first of them is taken for
abbrev pub first_of : List Bare → Terminal
first_of [] = is.EndOfText
first_of (x ∷ bs) = terminal_by x.kind x.text

first_is : (ts : List Lexeme) (bs : List Bare) → Are ts bs → first_terminal ts ≡ first_of bs
first_is [] [] e = refl
first_is [] (x ∷ bs) e = absurd cc
first_is (t ∷ ts) [] e = absurd cc
first_is (t ∷ ts) (x ∷ bs) e = let head : bare t ≡ x = cc in terminal_is t x head

-- ---- one token is taken

pub take_mark : (x : Bare) (bs : List Bare) (l : Terminal) (rest : List Need) →
    terminal_by x.kind x.text ≡ l → LeftOver (x ∷ bs) (mark l ∷ rest) → LeftOver bs rest
take_mark x bs l rest h b =
    let t = headed b.tokens x bs b.are in
    let here = terminal_is t.token x t.is ∙ h in
    let e = sym (mark_moves l b.count b.tokens t.rest t.token t.whole here rest) ∙ b.read in
    let y = onward (mark l ∷ rest) rest (λ v. v) (verdict t.rest rest b.count) b.values e in
    record { tokens = t.rest; are = t.back; count = b.count; values = y.values; read = y.is }

pub take_item : (x : Bare) (bs : List Bare) (l : Terminal) (rest : List Need) →
    terminal_by x.kind x.text ≡ l → LeftOver (x ∷ bs) (item l ∷ rest) → LeftOver bs rest
take_item x bs l rest h b =
    let t = headed b.tokens x bs b.are in
    let here = terminal_is t.token x t.is ∙ h in
    let e = sym (item_moves l b.count b.tokens t.rest t.token t.whole here rest) ∙ b.read in
    let y = onward (item l ∷ rest) rest (λ v. (t.token, v)) (verdict t.rest rest b.count) b.values
    e in
    record { tokens = t.rest; are = t.back; count = b.count; values = y.values; read = y.is }

pub take_keyword : (x : Bare) (bs : List Bare) (l : Keyword) (rest : List Need) →
    terminal_by x.kind x.text ≡ is.Word → x.text ≡ keyword_text l →
    LeftOver (x ∷ bs) (keyword l ∷ rest) → LeftOver bs rest
take_keyword x bs l rest h k b =
    let t = headed b.tokens x bs b.are in
    let here = terminal_is t.token x t.is ∙ h in
    let e = sym (keyword_moves l b.count b.tokens t.rest t.token t.whole here
    (text_is t.token x t.is ∙ k) rest) ∙ b.read in
    let y = onward (keyword l ∷ rest) rest (λ v. v) (verdict t.rest rest b.count) b.values e in
    record { tokens = t.rest; are = t.back; count = b.count; values = y.values; read = y.is }

-- The choice stands first among tokens with this one first.
abbrev pub BareAt : {p : Part} → Choice p → Bare → List Bare → Type 0
BareAt g.constant x bs = (terminal_by x.kind x.text ≡ is.Word) × (x.text ≡ keyword_text Const)
BareAt g.for_ x bs = ((terminal_by x.kind x.text ≡ is.Word) × (x.text ≡ keyword_text For)) × (first_of bs ≡ is.Word)
BareAt g.use_ x bs = (terminal_by x.kind x.text ≡ is.Word) × (first_of bs ≡ is.Colon)
BareAt c x bs = terminal_by x.kind x.text ≡ opening c

colon_there : (ts : List Lexeme) → first_terminal ts ≡ is.Colon → no_colon ts ≡ false
colon_there [] e = absurd cc
colon_there (t ∷ ts) e = ap (λ (l : Terminal). not (same l is.Colon)) e

word_there : (ts : List Lexeme) → first_terminal ts ≡ is.Word → no_colon ts ≡ true
word_there [] e = absurd cc
word_there (t ∷ ts) e = ap (λ (l : Terminal). not (same l is.Colon)) e

bare_at : {p : Part} (c : Choice p) (t : Lexeme) (us : List Lexeme) (x : Bare) (bs : List Bare) →
    bare t ≡ x → Are us bs → BareAt c x bs → At c (t ∷ us)
bare_at g.constant t us x bs is are h = (terminal_is t x is ∙ h.0, text_is t x is ∙ h.1)
bare_at g.for_ t us x bs is are h = and_from (is_keyword For t) (no_colon us)
    (is_that_keyword For t (terminal_is t x is ∙ h.0.0, text_is t x is ∙ h.0.1))
    (word_there us (first_is us bs are ∙ h.1))
bare_at (g.use_ {v = v}) t us x bs is are h = (terminal_is t x is ∙ h.0, no_loop_at v t us (colon_there us (first_is us bs are ∙ h.1)))
bare_at g.number t us x bs is are h = terminal_is t x is ∙ h
bare_at g.parameter t us x bs is are h = terminal_is t x is ∙ h
bare_at g.negated t us x bs is are h = terminal_is t x is ∙ h
bare_at g.bracketed t us x bs is are h = terminal_is t x is ∙ h
bare_at g.times t us x bs is are h = terminal_is t x is ∙ h
bare_at g.divided t us x bs is are h = terminal_is t x is ∙ h
bare_at g.plus t us x bs is are h = terminal_is t x is ∙ h
bare_at g.less t us x bs is are h = terminal_is t x is ∙ h
bare_at g.equal t us x bs is are h = terminal_is t x is ∙ h
bare_at g.unequal t us x bs is are h = terminal_is t x is ∙ h
bare_at g.below t us x bs is are h = terminal_is t x is ∙ h
bare_at g.above t us x bs is are h = terminal_is t x is ∙ h
bare_at g.or_equal t us x bs is are h = terminal_is t x is ∙ h
bare_at g.range t us x bs is are h = terminal_is t x is ∙ h
bare_at g.last t us x bs is are h = terminal_is t x is ∙ h
bare_at g.parameters t us x bs is are h = terminal_is t x is ∙ h
bare_at g.assign t us x bs is are h = terminal_is t x is ∙ h
bare_at g.next_assign t us x bs is are h = terminal_is t x is ∙ h
bare_at g.formal t us x bs is are h = terminal_is t x is ∙ h
bare_at g.next_formal t us x bs is are h = terminal_is t x is ∙ h
bare_at g.formal_outputs t us x bs is are h = terminal_is t x is ∙ h
bare_at g.delay t us x bs is are h = terminal_is t x is ∙ h
bare_at g.fall t us x bs is are h = terminal_is t x is ∙ h
bare_at g.complement t us x bs is are h = terminal_is t x is ∙ h
bare_at g.zero_term t us x bs is are h = terminal_is t x is ∙ h
bare_at g.one_term t us x bs is are h = terminal_is t x is ∙ h
bare_at g.named_term t us x bs is are h = terminal_is t x is ∙ h
bare_at g.zero_atom t us x bs is are h = terminal_is t x is ∙ h
bare_at g.one_atom t us x bs is are h = terminal_is t x is ∙ h
bare_at g.named_atom t us x bs is are h = terminal_is t x is ∙ h
bare_at g.next_term t us x bs is are h = terminal_is t x is ∙ h
bare_at g.hold t us x bs is are h = terminal_is t x is ∙ h
bare_at g.next_conn t us x bs is are h = terminal_is t x is ∙ h
bare_at g.outputs t us x bs is are h = terminal_is t x is ∙ h
bare_at g.wire t us x bs is are h = terminal_is t x is ∙ h
bare_at g.if_ t us x bs is are h = terminal_is t x is ∙ h
bare_at g.else_ t us x bs is are h = terminal_is t x is ∙ h
bare_at g.macro t us x bs is are h = terminal_is t x is ∙ h
bare_at g.index t us x bs is are h = terminal_is t x is ∙ h
bare_at g.entry t us x bs is are h = terminal_is t x is ∙ h
bare_at g.next_entry t us x bs is are h = terminal_is t x is ∙ h
bare_at g.case_ t us x bs is are h = terminal_is t x is ∙ h
bare_at g.wire_bounds t us x bs is are h = terminal_is t x is ∙ h
bare_at g.precision_skew t us x bs is are h = terminal_is t x is ∙ h
bare_at g.clock_skew t us x bs is are h = terminal_is t x is ∙ h
bare_at g.text t us x bs is are h = terminal_is t x is ∙ h

-- A part is entered within the limits.
pub record Opened {p : Part} (c : Choice p) (n : ℕ) (bs : List Bare) (rest : List Need) : Type 0
  where
    pub before : ℕ
    pub fits : weight (cost c) n before ≤ limit
    pub left : LeftOver bs (following c n ++ rest)

pub take_choice : {p : Part} (c : Choice p) (n : ℕ) (x : Bare) (bs : List Bare) (rest : List Need) →
    BareAt c x bs → LeftOver (x ∷ bs) (part p n ∷ rest) → Opened c n bs rest
take_choice {p} c n x bs rest h b = one (nat_le (weight (cost c) n b.count) limit) refl
  where
    one : (q : Bool) → nat_le (weight (cost c) n b.count) limit ≡ q → Opened c n bs rest
    one true q =
        let w = leb-true (weight (cost c) n b.count) limit q in
        let t = headed b.tokens x bs b.are in
        let here = bare_at c t.token t.rest x bs t.is t.back h in
        let e = sym (enters c n b.count b.tokens t.rest t.token t.whole here w rest) ∙ b.read in
        let y = onward (part p n ∷ rest) (following c n ++ rest)
        (λ v. (
          choice_value c n t.token (front (following c n) rest v),
          behind (following c n) rest v,
        )) (verdict t.rest (following c n ++ rest)
        (counted (cost c) b.count)) b.values e in
        record {
          before = b.count;
          fits = w;
          left = record {
            tokens = t.rest;
            are = t.back;
            count =
                counted (cost c) b.count;
            values = y.values;
            read = y.is;
          };
        }
    one false q =
        let w = leb-false (weight (cost c) n b.count) limit q in
        let t = headed b.tokens x bs b.are in
        let here = bare_at c t.token t.rest x bs t.is t.back h in
        let e = sym (too_deep c n b.count b.tokens t.rest t.token t.whole here w rest) ∙ b.read in
        absurd cc

-- ---- no token is taken

pub pass_part : (p : Part) (n : ℕ) (v : Meaning p) (bs : List Bare) (rest : List Need) →
    choice p (first_of bs) ≡ None → absent_value p ≡ Some v → LeftOver bs (part p n ∷ rest) →
    LeftOver bs rest
pass_part p n v bs rest h k b =
    let none = ap (choice p) (first_is b.tokens bs b.are) ∙ h in
    let e = sym (skips p n b.count b.tokens v none k rest) ∙ b.read in
    let y = onward (part p n ∷ rest) rest (λ w. (v, w)) (verdict b.tokens rest b.count) b.values
    e in
    record { tokens = b.tokens; are = b.are; count = b.count; values = y.values; read = y.is }

pub pass_fresh : (bs : List Bare) (rest : List Need) → LeftOver bs (fresh ∷ rest) → LeftOver bs rest
pass_fresh bs rest b =
    let e = sym (begins b.count b.tokens rest) ∙ b.read in
    let y = onward (fresh ∷ rest) rest (λ v. v) (verdict b.tokens rest 0) b.values e in
    record { tokens = b.tokens; are = b.are; count = 0; values = y.values; read = y.is }

-- a group that is never left out
pub into_group : (h : Group) (n : ℕ) (bs : List Bare) (rest : List Need) → absent_group h ≡ None →
    LeftOver bs (group h n ∷ rest) → LeftOver bs (part (lead h) n ∷ (others h n ++ rest))
into_group h n bs rest k b =
    let e = sym (always h n b.count b.tokens k rest) ∙ b.read in
    let y = onward (group h n ∷ rest) (part (lead h) n ∷ (others h n ++ rest))
    (λ v. (group_value h n v.0 (front (others h n) rest v.1), behind (others h n) rest v.1))
    (verdict b.tokens (part (lead h) n ∷ (others h n ++ rest)) b.count) b.values e in
    record { tokens = b.tokens; are = b.are; count = b.count; values = y.values; read = y.is }

-- a group that begins here
pub into_leading : (h : Group) (n : ℕ) (bs : List Bare) (rest : List Need) →
    is_constant (lead h) ≡ false → is_some (choice (lead h) (first_of bs)) ≡ true →
    LeftOver bs (group h n ∷ rest) → LeftOver bs (part (lead h) n ∷ (others h n ++ rest))
into_leading h n bs rest i k b =
    let leads = leads_by h b.tokens i (ap (λ (l : Terminal). is_some (choice (lead h) l))
    (first_is b.tokens bs b.are) ∙ k) in
    let e = sym (leads_on h n b.count b.tokens leads rest) ∙ b.read in
    let y = onward (group h n ∷ rest) (part (lead h) n ∷ (others h n ++ rest))
    (λ v. (group_value h n v.0 (front (others h n) rest v.1), behind (others h n) rest v.1))
    (verdict b.tokens (part (lead h) n ∷ (others h n ++ rest)) b.count) b.values e in
    record { tokens = b.tokens; are = b.are; count = b.count; values = y.values; read = y.is }

-- a group that begins here with this choice
pub into_choice : (h : Group) (n : ℕ) (c : Choice (lead h)) (x : Bare) (bs : List Bare) (rest : List Need) → BareAt c x bs →
    LeftOver (x ∷ bs) (group h n ∷ rest) → LeftOver (x ∷ bs) (part (lead h) n ∷ (others h n ++ rest))
into_choice h n c x bs rest k b =
    let t = headed b.tokens x bs b.are in
    let there = at_choice c t.token t.rest (bare_at c t.token t.rest x bs t.is t.back k) in
    let leads = ap (λ (ts : List Lexeme). is_some (first_choice (lead h) ts)) t.whole ∙ ap is_some there in
    let e = sym (leads_on h n b.count b.tokens leads rest) ∙ b.read in
    let y = onward (group h n ∷ rest) (part (lead h) n ∷ (others h n ++ rest))
    (λ v. (group_value h n v.0 (front (others h n) rest v.1), behind (others h n) rest v.1))
    (verdict b.tokens (part (lead h) n ∷ (others h n ++ rest)) b.count) b.values e in
    record { tokens = b.tokens; are = b.are; count = b.count; values = y.values; read = y.is }

pub pass_group : (h : Group) (n : ℕ) (v : GroupMeaning h) (bs : List Bare) (rest : List Need) →
    choice (lead h) (first_of bs) ≡ None → absent_group h ≡ Some v →
    LeftOver bs (group h n ∷ rest) → LeftOver bs rest
pass_group h n v bs rest k i b =
    let none = ap (choice (lead h)) (first_is b.tokens bs b.are) ∙ k in
    let e = sym (skips_group h n b.count b.tokens v none i rest) ∙ b.read in
    let y = onward (group h n ∷ rest) rest (λ w. (v, w)) (verdict b.tokens rest b.count) b.values
    e in
    record { tokens = b.tokens; are = b.are; count = b.count; values = y.values; read = y.is }
