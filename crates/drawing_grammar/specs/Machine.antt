-- What has still to come, token by token. A step looks at one token, and where a statement begins
-- with the word FOR at the next one too.
use Rattle.std.specs.Prelude.{◌≡◌, ℕ, Bool, false, not, ◌&&◌, ◌==◌, nat_le, List, [], ◌∷◌, ◌++◌, Option, Some, None, Result, Ok, Err, ⊤, if◌then◌else◌}
use Rattle.std.specs.Str.{bytes_eq}
use Rattle.scald_base.specs.declared.refusal.Place.{Place}
use Rattle.scald_base.specs.declared.refusal.Refusal.{Refusal}
use Rattle.scald_base.specs.declared.refusal.RefusalKind.{RefusalKind}
use Rattle.scald_base.specs.declared.refusal.RefusalKind.TheVariants.{Syntax, TooDeep}
use Rattle.scald_base.specs.declared.refusal.Stop.{Stop}
use Rattle.scald_base.specs.declared.refusal.Stop.TheVariants as stop
use Rattle.drawing_grammar.specs.declared.terminal.Terminal.{Terminal}
use Rattle.drawing_grammar.specs.declared.terminal.Terminal.TheVariants as is
use Rattle.drawing_grammar.specs.declared.terminal.Keyword.{Keyword}
use Rattle.drawing_grammar.specs.declared.terminal.Keyword.TheVariants.{Const, For}
use Rattle.drawing_grammar.specs.declared.edition.Edition.TheVariants.{Second}
use Rattle.drawing_grammar.specs.Lexeme.{Lexeme, terminal}
use Rattle.drawing_grammar.specs.Grammar.{Part, Group, keyword_text, Need, mark, item, keyword, fresh, part, group, Choice, following, lead, others, cost}
use Rattle.drawing_grammar.specs.Grammar as g
use Rattle.drawing_grammar.specs.Sketch.{Meaning, GroupMeaning, Values, front, behind, choice_value, group_value}
use Rattle.drawing_grammar.specs.Absent.{absent_value, absent_group}
use Rattle.drawing_grammar.specs.Written.{weight, counted, limit}

-- each terminal has a number of its own
abbrev pub code : Terminal → ℕ
code is.Scald = 0
code is.Clock = 1
code is.Wire = 2
code is.Pskew = 3
code is.Cskew = 4
code is.Macro = 5
code is.Drawing = 6
code is.Case = 7
code is.If = 8
code is.Then = 9
code is.Else = 10
code is.End = 11
code is.Zero = 12
code is.One = 13
code is.Word = 14
code is.Number = 15
code is.Name = 16
code is.Arrow = 17
code is.Semicolon = 18
code is.Colon = 19
code is.Comma = 20
code is.OpenParenthesis = 21
code is.CloseParenthesis = 22
code is.Less = 23
code is.Greater = 24
code is.OpenBracket = 25
code is.CloseBracket = 26
code is.OpenBrace = 27
code is.CloseBrace = 28
code is.Equals = 29
code is.Plus = 30
code is.Minus = 31
code is.Star = 32
code is.Slash = 33
code is.Ampersand = 34
code is.Exclamation = 35
code is.EndOfText = 36

abbrev pub same : Terminal → Terminal → Bool
same k l = code k == code l

-- ---- what stands first

-- the token is this keyword
abbrev pub is_keyword : Keyword → Lexeme → Bool
is_keyword x t = same (terminal t) is.Word && bytes_eq t.text (keyword_text x)

-- a token follows, and it is no colon
abbrev pub no_colon : List Lexeme → Bool
no_colon [] = false
no_colon (t ∷ ts) = not (same (terminal t) is.Colon)

-- FOR, and after it a token that is no colon
abbrev pub is_loop : Lexeme → List Lexeme → Bool
is_loop t ts = is_keyword For t && no_colon ts

-- The choice of a part that may begin with it. In version 2 a statement that begins with a word may
-- be a FOR as well, and a constant begins with one word alone.
abbrev pub choice : (p : Part) → Terminal → Option (Choice p)
choice g.Unary is.Number = Some g.number
choice g.Unary is.Word = Some g.parameter
choice g.Unary is.Minus = Some g.negated
choice g.Unary is.OpenParenthesis = Some g.bracketed
choice g.Factors is.Star = Some g.times
choice g.Factors is.Slash = Some g.divided
choice g.Terms is.Plus = Some g.plus
choice g.Terms is.Minus = Some g.less
choice g.Comparison is.Equals = Some g.equal
choice g.Comparison is.Exclamation = Some g.unequal
choice g.Comparison is.Less = Some g.below
choice g.Comparison is.Greater = Some g.above
choice g.OrEqual is.Equals = Some g.or_equal
choice g.Range is.Less = Some g.range
choice g.RangeEnd is.Colon = Some g.last
choice g.Parameters is.OpenBrace = Some g.parameters
choice g.Assign is.Word = Some g.assign
choice g.MoreAssigns is.Comma = Some g.next_assign
choice g.Formal is.Name = Some g.formal
choice g.MoreFormals is.Comma = Some g.next_formal
choice g.FormalOutputs is.Arrow = Some g.formal_outputs
choice g.Delay is.OpenBracket = Some g.delay
choice g.Fall is.Comma = Some g.fall
choice g.Term is.Minus = Some g.complement
choice g.Term is.Zero = Some g.zero_term
choice g.Term is.One = Some g.one_term
choice g.Term is.Name = Some g.named_term
choice g.Atom is.Zero = Some g.zero_atom
choice g.Atom is.One = Some g.one_atom
choice g.Atom is.Name = Some g.named_atom
choice g.MoreTerms is.Ampersand = Some g.next_term
choice g.Hold is.Exclamation = Some g.hold
choice g.MoreConns is.Comma = Some g.next_conn
choice g.Outputs is.Arrow = Some g.outputs
choice g.Constant is.Word = Some g.constant
choice (g.Statement v) is.Word = Some g.use_
choice (g.Statement v) is.Wire = Some g.wire
choice (g.Statement v) is.If = Some g.if_
choice (g.Otherwise v) is.Else = Some g.else_
choice (g.Macro v) is.Macro = Some g.macro
choice g.Index is.Less = Some g.index
choice g.Entry is.Name = Some g.entry
choice g.MoreEntries is.Comma = Some g.next_entry
choice g.CaseStatement is.Case = Some g.case_
choice g.WireBounds is.Wire = Some g.wire_bounds
choice g.PrecisionSkew is.Pskew = Some g.precision_skew
choice g.ClockSkew is.Cskew = Some g.clock_skew
choice (g.Text v) is.Scald = Some g.text
choice _ _ = None

-- The choice of a part that begins with this token, before these. Where a constant may stand, the
-- word CONST begins one; where a statement may stand, the word FOR begins a FOR, unless a colon
-- follows and it is a label.
abbrev pub choice_at : (p : Part) → Lexeme → List Lexeme → Option (Choice p)
choice_at g.Constant t ts = if is_keyword Const t then Some g.constant else None
choice_at (g.Statement Second) t ts =
    if is_loop t ts then Some g.for_ else choice (g.Statement Second) (terminal t)
choice_at p t ts = choice p (terminal t)

-- What a token does to what is needed: other needs, of which the token has this weight, or nothing
-- that is needed begins with it.
pub data Step (needs : List Need) : Type 0 where
  Next : (later : List Need) → ℕ → ℕ → (Values later → Values needs) → Step needs
  Stuck : Step needs

abbrev pub passed : {needs later : List Need} → Step later → (Values later → Values needs) →
    Step needs
passed (Next later a m build) f = Next later a m (λ v. f (build v))
passed Stuck f = Stuck

-- a part, if the choice that begins so is this
abbrev pub entered : (p : Part) (n : ℕ) (rest : List Need) → ℕ → Lexeme → Option (Choice p) →
    Option (Meaning p) → Step rest → Step (part p n ∷ rest)
entered p n rest a t (Some c) absent skip = Next (following c n ++ rest) (counted (cost c) a)
    (weight (cost c) n a) (λ v.
    (choice_value c n t (front (following c n) rest v), behind (following c n) rest v))
entered p n rest a t None (Some v) skip = passed skip (λ w. (v, w))
entered p n rest a t None None skip = Stuck

abbrev pub group_entered : (h : Group) (n : ℕ) (rest : List Need) → ℕ → Lexeme →
    Option (Choice (lead h)) → Option (GroupMeaning h) → Step rest → Step (group h n ∷ rest)
group_entered h n rest a t (Some c) absent skip =
    Next (following c n ++ (others h n ++ rest)) (counted (cost c) a) (weight (cost c) n a)
    (λ v. (
      group_value h n (choice_value c n t (front (following c n) (others h n ++ rest) v))
          (front (others h n) rest (behind (following c n) (others h n ++ rest) v)),
      behind (others h n) rest (behind (following c n) (others h n ++ rest) v),
    ))
group_entered h n rest a t None (Some v) skip = passed skip (λ w. (v, w))
group_entered h n rest a t None None skip = Stuck

-- of a token, before these
abbrev pub step : (needs : List Need) → ℕ → Lexeme → List Lexeme → Step needs
step [] a t ts = Stuck
step (mark l ∷ rest) a t ts = if same (terminal t) l then Next rest a 0 (λ v. v) else Stuck
step (item l ∷ rest) a t ts = if same (terminal t) l then Next rest a 0 (λ v. (t, v)) else Stuck
step (keyword x ∷ rest) a t ts = if is_keyword x t then Next rest a 0 (λ v. v) else Stuck
step (fresh ∷ rest) a t ts = passed (step rest 0 t ts) (λ v. v)
step (part p n ∷ rest) a t ts =
    entered p n rest a t (choice_at p t ts) (absent_value p) (step rest a t ts)
step (group h n ∷ rest) a t ts =
    group_entered h n rest a t (choice_at (lead h) t ts) (absent_group h) (step rest a t ts)

-- all that is needed has come, or the text is refused
pub data Verdict (needs : List Need) : Type 0 where
  Complete : Values needs → Verdict needs
  Refused : Refusal → Verdict needs

abbrev pub given : {needs later : List Need} → (Values later → Values needs) → Verdict later →
    Verdict needs
given f (Complete v) = Complete (f v)
given f (Refused r) = Refused r

abbrev pub nowhere : Place
nowhere = record { line = 0; col = 0 }

abbrev pub refusal : RefusalKind → Place → Refusal
refusal kind place = record { kind = kind; place = place }

abbrev pub finish_part : {p : Part} {n : ℕ} {rest : List Need} → Option (Meaning p) → Verdict rest →
    Verdict (part p n ∷ rest)
finish_part (Some v) x = given (λ w. (v, w)) x
finish_part None x = Refused (refusal Syntax nowhere)

abbrev pub finish_group : {h : Group} {n : ℕ} {rest : List Need} → Option (GroupMeaning h) →
    Verdict rest → Verdict (group h n ∷ rest)
finish_group (Some v) x = given (λ w. (v, w)) x
finish_group None x = Refused (refusal Syntax nowhere)

-- no token is left
abbrev pub finish : (needs : List Need) → Verdict needs
finish [] = Complete tt
finish (mark l ∷ rest) = Refused (refusal Syntax nowhere)
finish (item l ∷ rest) = Refused (refusal Syntax nowhere)
finish (keyword x ∷ rest) = Refused (refusal Syntax nowhere)
finish (fresh ∷ rest) = given (λ v. v) (finish rest)
finish (part p n ∷ rest) = finish_part (absent_value p) (finish rest)
finish (group h n ∷ rest) = finish_group (absent_group h) (finish rest)

abbrev pub go_on : {needs : List Need} → Step needs → ((later : List Need) → ℕ → Verdict later) →
    Place → Verdict needs
go_on (Next later a m build) next place =
    if nat_le m limit then given build (next later a) else Refused (refusal TooDeep place)
go_on Stuck next place = Refused (refusal Syntax place)

-- What the tokens give of what is needed, if a binary operators of the expression came before.
unfoldable pub verdict : List Lexeme → (needs : List Need) → ℕ → Verdict needs
verdict [] needs a = finish needs
verdict (t ∷ ts) needs a = go_on (step needs a t ts) (verdict ts) t.place

-- The tokens before a step give what those after it give, and this of them.
pub record Moves {needs later : List Need} (before : Verdict needs) (after : Verdict later)
    (f : Values later → Values needs) : Type 0 where
  pub is : before ≡ given f after

abbrev pub Says : {needs : List Need} → Verdict needs → Stop → Type 0
Says before stop.NoMemory = ⊤
Says before (stop.Refused r) = before ≡ Refused r

-- Reading stops so, or because memory ran out.
pub record Fails {needs : List Need} (before : Verdict needs) (s : Stop) : Type 0 where
  pub is : Says before s

-- An answer of the reader.
abbrev pub Gives : {X : Type 0} {needs later : List Need} → Result X Stop →
    (X → Values later → Values needs) → Verdict needs → Verdict later → Type 0
Gives (Ok x) f before after = Moves before after (f x)
Gives (Err s) f before after = Fails before s
