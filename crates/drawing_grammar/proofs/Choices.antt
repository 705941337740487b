-- Each choice of a part begins in a way of its own.
use Rattle.std.proofs.Common.{◌≡◌, ℕ, Bool, true, false, not, ◌&&◌, if◌then◌else◌, Option, Some, None, List, [], ◌∷◌, ◌++◌, refl, ap, subst, ◌∙◌}
use Rattle.std.specs.Prelude.{is_some, ⊤}
use Rattle.std.specs.Str.{bytes_eq}
use Rattle.std.proofs.lemmas.Bool.{and_parts, and_from}
use Rattle.drawing_grammar.specs.declared.edition.Edition.{Edition}
use Rattle.drawing_grammar.specs.declared.edition.Edition.TheVariants.{First, Second}
use Rattle.drawing_grammar.specs.declared.terminal.Keyword.TheVariants.{Const, For}
use Rattle.drawing_grammar.specs.declared.terminal.Terminal.{Terminal}
use Rattle.drawing_grammar.specs.declared.terminal.Terminal.TheVariants as is
use Rattle.drawing_grammar.specs.Lexeme.{Lexeme, terminal}
use Rattle.drawing_grammar.specs.Grammar.{Part, keyword_text, Need, Choice, opening, following}
use Rattle.drawing_grammar.specs.Grammar as g
use Rattle.drawing_grammar.specs.Written.{MayOpen, Written, marked, token, spelling}
use Rattle.drawing_grammar.specs.Machine.{same, is_keyword, no_colon, is_loop, choice, choice_at}
use Rattle.drawing_grammar.specs.Front.{first_terminal, first_choice, behind_first, AtKeyword, at_loop, At}
use Rattle.drawing_grammar.proofs.Terminals.{keyword_is, is_that_keyword}

-- the terminal of a token that may begin it
pub opens_so : {p : Part} (c : Choice p) (t : Lexeme) → MayOpen c t → terminal t ≡ opening c
opens_so g.constant t e = e.0
opens_so g.for_ t e = e.0
opens_so _ t e = e

-- Its part may begin with this terminal.
pub may_begin : {p : Part} (c : Choice p) → is_some (choice p (opening c)) ≡ true
may_begin g.number = refl
may_begin _ = refl

pub begins_part : {p : Part} (c : Choice p) (t : Lexeme) → MayOpen c t → is_some (choice p (terminal t)) ≡ true
begins_part {p} c t e = ap (λ (l : Terminal). is_some (choice p l)) (opens_so c t e) ∙ may_begin c

-- ---- the choice that is taken

-- What the token after the first one says, if a part may begin with the same token in two ways: it is no colon.
abbrev pub Behind : {p : Part} → Choice p → Bool → Type 0
Behind g.use_ b = b ≡ false
Behind g.for_ b = b ≡ true
Behind c b = ⊤

-- What follows in what is written says so.
pub behind_says : {p : Part} (c : Choice p) (n : ℕ) (rest : List Need) (w : Written (following c n ++ rest)) →
    Behind c (no_colon (spelling w))
behind_says g.use_ n rest (marked u h w) = ap (λ (l : Terminal). not (same l is.Colon)) h
behind_says g.for_ n rest (token u h w) = ap (λ (l : Terminal). not (same l is.Colon)) h
behind_says _ n rest w = tt

pub no_loop : (a b : Bool) → b ≡ false → (a && b) ≡ false
no_loop true b e = e
no_loop false b e = refl

-- A choice is taken if a token that may begin it stands first, and the one after it says so.
pub takes : {p : Part} (c : Choice p) (t : Lexeme) (ts : List Lexeme) → MayOpen c t → Behind c (no_colon ts) →
    choice_at p t ts ≡ Some c
takes g.constant t ts e b = ap (λ (k : Bool). if k then Some g.constant else None) (is_that_keyword Const t e)
takes g.for_ t ts e b =
    ap (λ (k : Bool). if k then Some g.for_ else choice (g.Statement Second) (terminal t))
    (and_from (is_keyword For t) (no_colon ts) (is_that_keyword For t e) b)
takes (g.use_ {v = First}) t ts e b = ap (choice (g.Statement First)) e
takes (g.use_ {v = Second}) t ts e b =
    ap (λ (k : Bool). if k then Some g.for_ else choice (g.Statement Second) (terminal t))
    (no_loop (is_keyword For t) (no_colon ts) b) ∙ ap (choice (g.Statement Second)) e
takes (g.wire {v = First}) t ts e b = ap (choice (g.Statement First)) e
takes (g.wire {v = Second}) t ts e b = ap (λ (l : Terminal).
    if (same l is.Word && bytes_eq t.text (keyword_text For)) && no_colon ts then Some g.for_
    else choice (g.Statement Second) l) e
takes (g.if_ {v = First}) t ts e b = ap (choice (g.Statement First)) e
takes (g.if_ {v = Second}) t ts e b = ap (λ (l : Terminal).
    if (same l is.Word && bytes_eq t.text (keyword_text For)) && no_colon ts then Some g.for_
    else choice (g.Statement Second) l) e
takes {p} _ t ts e b = ap (choice p) e

-- A part that may not begin with a terminal takes no token of it.
pub takes_none : (p : Part) (t : Lexeme) (ts : List Lexeme) → is_some (choice p (terminal t)) ≡ false →
    is_some (choice_at p t ts) ≡ false
takes_none g.Constant t ts e = one (is_keyword Const t) refl
  where
    one : (k : Bool) → is_keyword Const t ≡ k → is_some (if k then Some g.constant else None) ≡ false
    one true h =
        let w = ap (λ (l : Terminal). is_some (choice g.Constant l)) (keyword_is Const t h).0 in absurd cc
    one false h = refl
takes_none (g.Statement Second) t ts e = one (is_loop t ts) refl
  where
    one : (k : Bool) → is_loop t ts ≡ k →
        is_some (if k then Some g.for_ else choice (g.Statement Second) (terminal t)) ≡ false
    one true h =
        let q = and_parts (is_keyword For t) (no_colon ts) h in
        let w = ap (λ (l : Terminal). is_some (choice (g.Statement Second) l)) (keyword_is For t q.0).0 in absurd cc
    one false h = e
takes_none _ t ts e = e

is_none : {A : Type 0} (o : Option A) → is_some o ≡ false → o ≡ None
is_none None e = refl
is_none (Some x) e = absurd cc

pub no_choice_at : (p : Part) (ts : List Lexeme) → choice p (first_terminal ts) ≡ None → first_choice p ts ≡ None
no_choice_at p [] e = refl
no_choice_at p (t ∷ ts) e = is_none (choice_at p t ts) (takes_none p t ts (ap is_some e))

-- ---- and what it begins with

abbrev pub is_constant : Part → Bool
is_constant g.Constant = true
is_constant _ = false

by_terminal : (p : Part) (l : Terminal) (t : Lexeme) (c : Choice p) → is_constant p ≡ false → terminal t ≡ l →
    choice p l ≡ Some c → MayOpen c t
by_terminal g.Unary is.Number t c i k e = let h : g.number ≡ c = cc in subst (λ (d : Choice g.Unary). MayOpen d t) h k
by_terminal g.Unary is.Word t c i k e = let h : g.parameter ≡ c = cc in subst (λ (d : Choice g.Unary). MayOpen d t) h k
by_terminal g.Unary is.Minus t c i k e = let h : g.negated ≡ c = cc in subst (λ (d : Choice g.Unary). MayOpen d t) h k
by_terminal g.Unary is.OpenParenthesis t c i k e = let h : g.bracketed ≡ c = cc in subst (λ (d : Choice g.Unary). MayOpen d t) h k
by_terminal g.Factors is.Star t c i k e = let h : g.times ≡ c = cc in subst (λ (d : Choice g.Factors). MayOpen d t) h k
by_terminal g.Factors is.Slash t c i k e = let h : g.divided ≡ c = cc in subst (λ (d : Choice g.Factors). MayOpen d t) h k
by_terminal g.Terms is.Plus t c i k e = let h : g.plus ≡ c = cc in subst (λ (d : Choice g.Terms). MayOpen d t) h k
by_terminal g.Terms is.Minus t c i k e = let h : g.less ≡ c = cc in subst (λ (d : Choice g.Terms). MayOpen d t) h k
by_terminal g.Comparison is.Equals t c i k e = let h : g.equal ≡ c = cc in subst (λ (d : Choice g.Comparison). MayOpen d t) h k
by_terminal g.Comparison is.Exclamation t c i k e = let h : g.unequal ≡ c = cc in subst (λ (d : Choice g.Comparison). MayOpen d t) h k
by_terminal g.Comparison is.Less t c i k e = let h : g.below ≡ c = cc in subst (λ (d : Choice g.Comparison). MayOpen d t) h k
by_terminal g.Comparison is.Greater t c i k e = let h : g.above ≡ c = cc in subst (λ (d : Choice g.Comparison). MayOpen d t) h k
by_terminal g.OrEqual is.Equals t c i k e = let h : g.or_equal ≡ c = cc in subst (λ (d : Choice g.OrEqual). MayOpen d t) h k
by_terminal g.Range is.Less t c i k e = let h : g.range ≡ c = cc in subst (λ (d : Choice g.Range). MayOpen d t) h k
by_terminal g.RangeEnd is.Colon t c i k e = let h : g.last ≡ c = cc in subst (λ (d : Choice g.RangeEnd). MayOpen d t) h k
by_terminal g.Parameters is.OpenBrace t c i k e = let h : g.parameters ≡ c = cc in subst (λ (d : Choice g.Parameters). MayOpen d t) h k
by_terminal g.Assign is.Word t c i k e = let h : g.assign ≡ c = cc in subst (λ (d : Choice g.Assign). MayOpen d t) h k
by_terminal g.MoreAssigns is.Comma t c i k e = let h : g.next_assign ≡ c = cc in subst (λ (d : Choice g.MoreAssigns). MayOpen d t) h k
by_terminal g.Formal is.Name t c i k e = let h : g.formal ≡ c = cc in subst (λ (d : Choice g.Formal). MayOpen d t) h k
by_terminal g.MoreFormals is.Comma t c i k e = let h : g.next_formal ≡ c = cc in subst (λ (d : Choice g.MoreFormals). MayOpen d t) h k
by_terminal g.FormalOutputs is.Arrow t c i k e = let h : g.formal_outputs ≡ c = cc in subst (λ (d : Choice g.FormalOutputs). MayOpen d t) h k
by_terminal g.Delay is.OpenBracket t c i k e = let h : g.delay ≡ c = cc in subst (λ (d : Choice g.Delay). MayOpen d t) h k
by_terminal g.Fall is.Comma t c i k e = let h : g.fall ≡ c = cc in subst (λ (d : Choice g.Fall). MayOpen d t) h k
by_terminal g.Term is.Minus t c i k e = let h : g.complement ≡ c = cc in subst (λ (d : Choice g.Term). MayOpen d t) h k
by_terminal g.Term is.Zero t c i k e = let h : g.zero_term ≡ c = cc in subst (λ (d : Choice g.Term). MayOpen d t) h k
by_terminal g.Term is.One t c i k e = let h : g.one_term ≡ c = cc in subst (λ (d : Choice g.Term). MayOpen d t) h k
by_terminal g.Term is.Name t c i k e = let h : g.named_term ≡ c = cc in subst (λ (d : Choice g.Term). MayOpen d t) h k
by_terminal g.Atom is.Zero t c i k e = let h : g.zero_atom ≡ c = cc in subst (λ (d : Choice g.Atom). MayOpen d t) h k
by_terminal g.Atom is.One t c i k e = let h : g.one_atom ≡ c = cc in subst (λ (d : Choice g.Atom). MayOpen d t) h k
by_terminal g.Atom is.Name t c i k e = let h : g.named_atom ≡ c = cc in subst (λ (d : Choice g.Atom). MayOpen d t) h k
by_terminal g.MoreTerms is.Ampersand t c i k e = let h : g.next_term ≡ c = cc in subst (λ (d : Choice g.MoreTerms). MayOpen d t) h k
by_terminal g.Hold is.Exclamation t c i k e = let h : g.hold ≡ c = cc in subst (λ (d : Choice g.Hold). MayOpen d t) h k
by_terminal g.MoreConns is.Comma t c i k e = let h : g.next_conn ≡ c = cc in subst (λ (d : Choice g.MoreConns). MayOpen d t) h k
by_terminal g.Outputs is.Arrow t c i k e = let h : g.outputs ≡ c = cc in subst (λ (d : Choice g.Outputs). MayOpen d t) h k
by_terminal (g.Statement v) is.Word t c i k e = let h : g.use_ ≡ c = cc in subst (λ (d : Choice (g.Statement v)). MayOpen d t) h k
by_terminal (g.Statement v) is.Wire t c i k e = let h : g.wire ≡ c = cc in subst (λ (d : Choice (g.Statement v)). MayOpen d t) h k
by_terminal (g.Statement v) is.If t c i k e = let h : g.if_ ≡ c = cc in subst (λ (d : Choice (g.Statement v)). MayOpen d t) h k
by_terminal (g.Otherwise v) is.Else t c i k e = let h : g.else_ ≡ c = cc in subst (λ (d : Choice (g.Otherwise v)). MayOpen d t) h k
by_terminal (g.Macro v) is.Macro t c i k e = let h : g.macro ≡ c = cc in subst (λ (d : Choice (g.Macro v)). MayOpen d t) h k
by_terminal g.Index is.Less t c i k e = let h : g.index ≡ c = cc in subst (λ (d : Choice g.Index). MayOpen d t) h k
by_terminal g.Entry is.Name t c i k e = let h : g.entry ≡ c = cc in subst (λ (d : Choice g.Entry). MayOpen d t) h k
by_terminal g.MoreEntries is.Comma t c i k e = let h : g.next_entry ≡ c = cc in subst (λ (d : Choice g.MoreEntries). MayOpen d t) h k
by_terminal g.CaseStatement is.Case t c i k e = let h : g.case_ ≡ c = cc in subst (λ (d : Choice g.CaseStatement). MayOpen d t) h k
by_terminal g.WireBounds is.Wire t c i k e = let h : g.wire_bounds ≡ c = cc in subst (λ (d : Choice g.WireBounds). MayOpen d t) h k
by_terminal g.PrecisionSkew is.Pskew t c i k e = let h : g.precision_skew ≡ c = cc in subst (λ (d : Choice g.PrecisionSkew). MayOpen d t) h k
by_terminal g.ClockSkew is.Cskew t c i k e = let h : g.clock_skew ≡ c = cc in subst (λ (d : Choice g.ClockSkew). MayOpen d t) h k
by_terminal (g.Text v) is.Scald t c i k e = let h : g.text ≡ c = cc in subst (λ (d : Choice (g.Text v)). MayOpen d t) h k
by_terminal _ _ t c i k e = absurd cc

-- The token may begin the choice that is taken.
pub opens_with : (p : Part) (t : Lexeme) (ts : List Lexeme) (c : Choice p) → choice_at p t ts ≡ Some c → MayOpen c t
opens_with g.Constant t ts c e = one (is_keyword Const t) refl e
  where
    one : (k : Bool) → is_keyword Const t ≡ k → (if k then Some g.constant else None) ≡ Some c → MayOpen c t
    one true h f =
        let d : g.constant ≡ c = cc in
        subst (λ (x : Choice g.Constant). MayOpen x t) d (keyword_is Const t h)
    one false h f = absurd cc
opens_with (g.Statement First) t ts c e = by_terminal (g.Statement First) (terminal t) t c refl refl e
opens_with (g.Statement Second) t ts c e = one (is_loop t ts) refl e
  where
    one : (k : Bool) → is_loop t ts ≡ k →
        (if k then Some g.for_ else choice (g.Statement Second) (terminal t)) ≡ Some c → MayOpen c t
    one true h f =
        let d : g.for_ ≡ c = cc in
        subst (λ (x : Choice (g.Statement Second)). MayOpen x t) d
        (keyword_is For t (and_parts (is_keyword For t) (no_colon ts) h).0)
    one false h f = by_terminal (g.Statement Second) (terminal t) t c refl refl f
opens_with g.Unary t ts c e = by_terminal g.Unary (terminal t) t c refl refl e
opens_with g.Factors t ts c e = by_terminal g.Factors (terminal t) t c refl refl e
opens_with g.Terms t ts c e = by_terminal g.Terms (terminal t) t c refl refl e
opens_with g.Comparison t ts c e = by_terminal g.Comparison (terminal t) t c refl refl e
opens_with g.OrEqual t ts c e = by_terminal g.OrEqual (terminal t) t c refl refl e
opens_with g.Range t ts c e = by_terminal g.Range (terminal t) t c refl refl e
opens_with g.RangeEnd t ts c e = by_terminal g.RangeEnd (terminal t) t c refl refl e
opens_with g.Parameters t ts c e = by_terminal g.Parameters (terminal t) t c refl refl e
opens_with g.Assign t ts c e = by_terminal g.Assign (terminal t) t c refl refl e
opens_with g.MoreAssigns t ts c e = by_terminal g.MoreAssigns (terminal t) t c refl refl e
opens_with g.Formal t ts c e = by_terminal g.Formal (terminal t) t c refl refl e
opens_with g.MoreFormals t ts c e = by_terminal g.MoreFormals (terminal t) t c refl refl e
opens_with g.FormalOutputs t ts c e = by_terminal g.FormalOutputs (terminal t) t c refl refl e
opens_with g.Delay t ts c e = by_terminal g.Delay (terminal t) t c refl refl e
opens_with g.Fall t ts c e = by_terminal g.Fall (terminal t) t c refl refl e
opens_with g.Term t ts c e = by_terminal g.Term (terminal t) t c refl refl e
opens_with g.Atom t ts c e = by_terminal g.Atom (terminal t) t c refl refl e
opens_with g.MoreTerms t ts c e = by_terminal g.MoreTerms (terminal t) t c refl refl e
opens_with g.Hold t ts c e = by_terminal g.Hold (terminal t) t c refl refl e
opens_with g.MoreConns t ts c e = by_terminal g.MoreConns (terminal t) t c refl refl e
opens_with g.Outputs t ts c e = by_terminal g.Outputs (terminal t) t c refl refl e
opens_with (g.Otherwise v) t ts c e = by_terminal (g.Otherwise v) (terminal t) t c refl refl e
opens_with (g.Macro v) t ts c e = by_terminal (g.Macro v) (terminal t) t c refl refl e
opens_with g.Index t ts c e = by_terminal g.Index (terminal t) t c refl refl e
opens_with g.Entry t ts c e = by_terminal g.Entry (terminal t) t c refl refl e
opens_with g.MoreEntries t ts c e = by_terminal g.MoreEntries (terminal t) t c refl refl e
opens_with g.CaseStatement t ts c e = by_terminal g.CaseStatement (terminal t) t c refl refl e
opens_with g.WireBounds t ts c e = by_terminal g.WireBounds (terminal t) t c refl refl e
opens_with g.PrecisionSkew t ts c e = by_terminal g.PrecisionSkew (terminal t) t c refl refl e
opens_with g.ClockSkew t ts c e = by_terminal g.ClockSkew (terminal t) t c refl refl e
opens_with (g.Text v) t ts c e = by_terminal (g.Text v) (terminal t) t c refl refl e

-- ---- how much the token after the first one matters

-- It matters only whether it is a colon.
pub same_choice : (p : Part) (t : Lexeme) (ts zs : List Lexeme) → no_colon ts ≡ no_colon zs →
    choice_at p t ts ≡ choice_at p t zs
same_choice (g.Statement Second) t ts zs e = ap (λ (b : Bool).
    if is_keyword For t && b then Some g.for_ else choice (g.Statement Second) (terminal t)) e
same_choice (g.Statement First) t ts zs e = refl
same_choice _ t ts zs e = refl

-- ---- the choice that stands first

-- the terminal that stands first then
pub at_opening : {p : Part} (c : Choice p) (ts : List Lexeme) → At c ts → first_terminal ts ≡ opening c
at_opening g.constant ts e = e.0
at_opening g.for_ [] e = absurd cc
at_opening g.for_ (t ∷ us) e = (keyword_is For t (and_parts (is_keyword For t) (no_colon us) e).0).0
at_opening g.use_ ts e = e.0
at_opening _ ts e = e

-- It is the one that is taken.
pub at_choice : {p : Part} (c : Choice p) (t : Lexeme) (us : List Lexeme) → At c (t ∷ us) → choice_at p t us ≡ Some c
at_choice g.constant t us e = takes g.constant t us e tt
at_choice g.for_ t us e =
    let k = and_parts (is_keyword For t) (no_colon us) e in takes g.for_ t us (keyword_is For t k.0) k.1
at_choice (g.use_ {v = First}) t us e = ap (choice (g.Statement First)) e.0
at_choice (g.use_ {v = Second}) t us e =
    ap (λ (k : Bool). if k then Some g.for_ else choice (g.Statement Second) (terminal t)) e.1
    ∙ ap (choice (g.Statement Second)) e.0
at_choice g.number t us e = takes g.number t us e tt
at_choice g.parameter t us e = takes g.parameter t us e tt
at_choice g.negated t us e = takes g.negated t us e tt
at_choice g.bracketed t us e = takes g.bracketed t us e tt
at_choice g.times t us e = takes g.times t us e tt
at_choice g.divided t us e = takes g.divided t us e tt
at_choice g.plus t us e = takes g.plus t us e tt
at_choice g.less t us e = takes g.less t us e tt
at_choice g.equal t us e = takes g.equal t us e tt
at_choice g.unequal t us e = takes g.unequal t us e tt
at_choice g.below t us e = takes g.below t us e tt
at_choice g.above t us e = takes g.above t us e tt
at_choice g.or_equal t us e = takes g.or_equal t us e tt
at_choice g.range t us e = takes g.range t us e tt
at_choice g.last t us e = takes g.last t us e tt
at_choice g.parameters t us e = takes g.parameters t us e tt
at_choice g.assign t us e = takes g.assign t us e tt
at_choice g.next_assign t us e = takes g.next_assign t us e tt
at_choice g.formal t us e = takes g.formal t us e tt
at_choice g.next_formal t us e = takes g.next_formal t us e tt
at_choice g.formal_outputs t us e = takes g.formal_outputs t us e tt
at_choice g.delay t us e = takes g.delay t us e tt
at_choice g.fall t us e = takes g.fall t us e tt
at_choice g.complement t us e = takes g.complement t us e tt
at_choice g.zero_term t us e = takes g.zero_term t us e tt
at_choice g.one_term t us e = takes g.one_term t us e tt
at_choice g.named_term t us e = takes g.named_term t us e tt
at_choice g.zero_atom t us e = takes g.zero_atom t us e tt
at_choice g.one_atom t us e = takes g.one_atom t us e tt
at_choice g.named_atom t us e = takes g.named_atom t us e tt
at_choice g.next_term t us e = takes g.next_term t us e tt
at_choice g.hold t us e = takes g.hold t us e tt
at_choice g.next_conn t us e = takes g.next_conn t us e tt
at_choice g.outputs t us e = takes g.outputs t us e tt
at_choice g.wire t us e = takes g.wire t us e tt
at_choice g.if_ t us e = takes g.if_ t us e tt
at_choice g.else_ t us e = takes g.else_ t us e tt
at_choice g.macro t us e = takes g.macro t us e tt
at_choice g.index t us e = takes g.index t us e tt
at_choice g.entry t us e = takes g.entry t us e tt
at_choice g.next_entry t us e = takes g.next_entry t us e tt
at_choice g.case_ t us e = takes g.case_ t us e tt
at_choice g.wire_bounds t us e = takes g.wire_bounds t us e tt
at_choice g.precision_skew t us e = takes g.precision_skew t us e tt
at_choice g.clock_skew t us e = takes g.clock_skew t us e tt
at_choice g.text t us e = takes g.text t us e tt

-- A part that may begin so does, but for a constant.
pub still_some : (p : Part) (t : Lexeme) (us : List Lexeme) → is_constant p ≡ false →
    is_some (choice p (terminal t)) ≡ true → is_some (choice_at p t us) ≡ true
still_some g.Constant t us k e = absurd cc
still_some (g.Statement Second) t us k e = one (is_loop t us)
  where
    one : (b : Bool) → is_some (if b then Some g.for_ else choice (g.Statement Second) (terminal t)) ≡ true
    one true = refl
    one false = e
still_some _ t us k e = e

-- ---- where a word of its own stands first

-- A word with a colon after it is no FOR.
pub no_loop_at : (v : Edition) (t : Lexeme) (us : List Lexeme) → no_colon us ≡ false → at_loop v (t ∷ us) ≡ false
no_loop_at First t us e = refl
no_loop_at Second t us e = no_loop (is_keyword For t) (no_colon us) e

pub no_constant_at : (ts : List Lexeme) → ¬ AtKeyword Const ts → first_choice g.Constant ts ≡ None
no_constant_at [] h = refl
no_constant_at (t ∷ ts) h = one (is_keyword Const t) refl
  where
    one : (k : Bool) → is_keyword Const t ≡ k → ◌≡◌ {A = Option (Choice g.Constant)} (if k then Some g.constant else None) None
    one true e = absurd (h (keyword_is Const t e))
    one false e = refl

pub at_for : (ts : List Lexeme) → AtKeyword For ts → at_loop Second ts ≡ no_colon (behind_first ts)
at_for [] h = let z : is.EndOfText ≡ is.Word = h.0 in absurd cc
at_for (t ∷ ts) h = ap (λ (k : Bool). k && no_colon ts) (is_that_keyword For t h)

pub no_for : (ts : List Lexeme) → ¬ AtKeyword For ts → at_loop Second ts ≡ false
no_for [] h = refl
no_for (t ∷ ts) h = one (is_keyword For t) refl
  where
    one : (k : Bool) → is_keyword For t ≡ k → (k && no_colon ts) ≡ false
    one true e = absurd (h (keyword_is For t e))
    one false e = refl
