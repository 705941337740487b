-- Whatever is needed can be written.
use Rattle.std.proofs.Common.{◌≡◌, ℕ, pos, List, [], ◌∷◌, Option, Some, None, refl, ap, ◌∙◌}
use Rattle.std.specs.Prelude.{codes}
use Rattle.scald_lex.specs.declared.token.TokenKind.{TokenKind}
use Rattle.scald_lex.specs.declared.token.TokenKind.TheVariants as kind
use Rattle.drawing_grammar.specs.declared.terminal.Keyword.{Keyword}
use Rattle.drawing_grammar.specs.declared.terminal.Keyword.TheVariants.{By, Hazard, Const, For, To, Do}
use Rattle.drawing_grammar.specs.declared.terminal.Terminal.{Terminal}
use Rattle.drawing_grammar.specs.declared.terminal.Terminal.TheVariants as is
use Rattle.drawing_grammar.specs.declared.edition.Edition.TheVariants.{First, Second}
use Rattle.drawing_grammar.specs.Lexeme.{Lexeme, terminal, word_terminal, symbol_terminal}
use Rattle.drawing_grammar.specs.Grammar.{Part, Group, keyword_text, Need, mark, item, keyword, fresh, part, group}
use Rattle.drawing_grammar.specs.Grammar as g
use Rattle.drawing_grammar.specs.Sketch.{Meaning, GroupMeaning, Values}
use Rattle.drawing_grammar.specs.Absent.{absent_value, absent_group}
use Rattle.drawing_grammar.specs.Written.{Written, nothing, marked, token, worded, begun, chosen, left_out, grouped, lacking, spelling, values}
use Rattle.drawing_grammar.specs.Machine.{Verdict, Complete, Refused, given, finish, finish_part, finish_group, nowhere}
use Rattle.drawing_grammar.proofs.Follow.{leads}

abbrev plain : TokenKind → Lexeme
plain k = record { kind = k; text = []; place = nowhere }

abbrev word : List ℕ → Lexeme
word text = record { kind = kind.Word; text = text; place = nowhere }

-- a token of each terminal
abbrev sample : Terminal → Lexeme
sample is.Scald = word (codes "SCALD")
sample is.Clock = word (codes "CLOCK")
sample is.Wire = word (codes "WIRE")
sample is.Pskew = word (codes "PSKEW")
sample is.Cskew = word (codes "CSKEW")
sample is.Macro = word (codes "MACRO")
sample is.Drawing = word (codes "DRAWING")
sample is.Case = word (codes "CASE")
sample is.If = word (codes "IF")
sample is.Then = word (codes "THEN")
sample is.Else = word (codes "ELSE")
sample is.End = word (codes "END")
sample is.Zero = word (codes "ZERO")
sample is.One = word (codes "ONE")
sample is.Word = word (codes "A")
sample is.Number = plain (kind.Number (pos 0))
sample is.Name = plain kind.Name
sample is.Arrow = plain kind.Arrow
sample is.Semicolon = plain (kind.Symbol 59)
sample is.Colon = plain (kind.Symbol 58)
sample is.Comma = plain (kind.Symbol 44)
sample is.OpenParenthesis = plain (kind.Symbol 40)
sample is.CloseParenthesis = plain (kind.Symbol 41)
sample is.Less = plain (kind.Symbol 60)
sample is.Greater = plain (kind.Symbol 62)
sample is.OpenBracket = plain (kind.Symbol 91)
sample is.CloseBracket = plain (kind.Symbol 93)
sample is.OpenBrace = plain (kind.Symbol 123)
sample is.CloseBrace = plain (kind.Symbol 125)
sample is.Equals = plain (kind.Symbol 61)
sample is.Plus = plain (kind.Symbol 43)
sample is.Minus = plain (kind.Symbol 45)
sample is.Star = plain (kind.Symbol 42)
sample is.Slash = plain (kind.Symbol 47)
sample is.Ampersand = plain (kind.Symbol 38)
sample is.Exclamation = plain (kind.Symbol 33)
sample is.EndOfText = plain kind.End

sampled : (l : Terminal) → terminal (sample l) ≡ l
unfolding word_terminal symbol_terminal
sampled is.Scald = refl
sampled is.Clock = refl
sampled is.Wire = refl
sampled is.Pskew = refl
sampled is.Cskew = refl
sampled is.Macro = refl
sampled is.Drawing = refl
sampled is.Case = refl
sampled is.If = refl
sampled is.Then = refl
sampled is.Else = refl
sampled is.End = refl
sampled is.Zero = refl
sampled is.One = refl
sampled is.Word = refl
sampled is.Number = refl
sampled is.Name = refl
sampled is.Arrow = refl
sampled is.Semicolon = refl
sampled is.Colon = refl
sampled is.Comma = refl
sampled is.OpenParenthesis = refl
sampled is.CloseParenthesis = refl
sampled is.Less = refl
sampled is.Greater = refl
sampled is.OpenBracket = refl
sampled is.CloseBracket = refl
sampled is.OpenBrace = refl
sampled is.CloseBrace = refl
sampled is.Equals = refl
sampled is.Plus = refl
sampled is.Minus = refl
sampled is.Star = refl
sampled is.Slash = refl
sampled is.Ampersand = refl
sampled is.Exclamation = refl
sampled is.EndOfText = refl

worded_word : (x : Keyword) → terminal (word (keyword_text x)) ≡ is.Word
unfolding word_terminal
worded_word By = refl
worded_word Hazard = refl
worded_word Const = refl
worded_word For = refl
worded_word To = refl
worded_word Do = refl

abbrev m : (l : Terminal) {rest : List Need} → Written rest → Written (mark l ∷ rest)
m l w = marked (sample l) (sampled l) w

abbrev i : (l : Terminal) {rest : List Need} → Written rest → Written (item l ∷ rest)
i l w = token (sample l) (sampled l) w

abbrev least_part : (p : Part) (n : ℕ) (rest : List Need) → Written rest → Written (part p n ∷ rest)
least_part g.Unary n rest w = chosen g.number (sample is.Number) (sampled is.Number) (w)
least_part g.Factors n rest w = left_out _ refl w
least_part g.Terms n rest w = left_out _ refl w
least_part g.Comparison n rest w = left_out _ refl w
least_part g.OrEqual n rest w = left_out _ refl w
least_part g.Range n rest w = left_out _ refl w
least_part g.RangeEnd n rest w = left_out _ refl w
least_part g.Parameters n rest w = left_out _ refl w
least_part g.Assign n rest w = chosen g.assign (sample is.Word) (sampled is.Word)
    (m is.Equals (begun (grouped (chosen g.number (sample is.Number) (sampled is.Number) (left_out _ refl (left_out _ refl (w)))))))
least_part g.MoreAssigns n rest w = left_out _ refl w
least_part g.Formal n rest w = chosen g.formal (sample is.Name) (sampled is.Name) (left_out _ refl (w))
least_part g.MoreFormals n rest w = left_out _ refl w
least_part g.FormalOutputs n rest w = left_out _ refl w
least_part g.Delay n rest w = left_out _ refl w
least_part g.Fall n rest w = left_out _ refl w
least_part g.Term n rest w = chosen g.zero_term (sample is.Zero) (sampled is.Zero) (w)
least_part g.Atom n rest w = chosen g.zero_atom (sample is.Zero) (sampled is.Zero) (w)
least_part g.MoreTerms n rest w = left_out _ refl w
least_part g.Hold n rest w = left_out _ refl w
least_part g.MoreConns n rest w = left_out _ refl w
least_part g.Outputs n rest w = left_out _ refl w
least_part g.Constant n rest w =
    chosen g.constant (word (codes "CONST")) (worded_word Const, refl) (i is.Word
    (m is.Equals (begun (grouped (chosen g.number (sample is.Number) (sampled is.Number) (left_out _ refl (left_out _ refl (m is.Semicolon (w)))))))))
least_part (g.Statement v) n rest w =
    chosen g.use_ (sample is.Word) (sampled is.Word)
    (m is.Colon (i is.Word (left_out _
    refl (left_out _ refl (m is.OpenParenthesis (lacking _ refl (m is.CloseParenthesis (left_out _ refl (m is.Semicolon (w))))))))))
least_part (g.Otherwise v) n rest w = left_out _ refl w
least_part (g.Macro v) n rest w =
    chosen g.macro (sample is.Macro) (sampled is.Macro)
    (i is.Word (left_out _ refl (m is.OpenParenthesis
    (lacking _ refl (m is.CloseParenthesis (left_out _ refl (m is.Semicolon (lacking _ refl (m is.End (m is.Semicolon (w)))))))))))
least_part g.Index n rest w = left_out _ refl w
least_part g.Entry n rest w = chosen g.entry (sample is.Name) (sampled is.Name) (left_out _ refl (m is.Equals (i is.Number (w))))
least_part g.MoreEntries n rest w = left_out _ refl w
least_part g.CaseStatement n rest w = chosen g.case_ (sample is.Case) (sampled is.Case)
    (grouped (chosen g.entry (sample is.Name) (sampled is.Name) (left_out _ refl (m is.Equals (i is.Number (left_out _ refl (m is.Semicolon (w))))))))
least_part g.WireBounds n rest w = left_out _ refl w
least_part g.PrecisionSkew n rest w = left_out _ refl w
least_part g.ClockSkew n rest w = left_out _ refl w
least_part (g.Text First) n rest w =
    chosen g.text (sample is.Scald) (sampled is.Scald)
    (i is.Number (m is.Semicolon
    (i is.Clock (i is.Number
    (worded {x = By} (word (codes "x")) (worded_word By)
    refl (i is.Number (m is.Semicolon
    (left_out _ refl (left_out _
    refl (left_out _ refl (lacking _
    refl (m is.Drawing (i is.Word (m is.Semicolon (lacking _ refl (m is.End (m is.Semicolon (lacking _ refl (m is.EndOfText (w))))))))))))))))))))
least_part (g.Text Second) n rest w =
    chosen g.text (sample is.Scald) (sampled is.Scald)
    (i is.Number (m is.Semicolon
    (i is.Clock (i is.Number
    (worded {x = By} (word (codes "x")) (worded_word By)
    refl (i is.Number (m is.Semicolon
    (left_out _ refl (left_out _
    refl (left_out _ refl (lacking _ refl (lacking _
    refl (m is.Drawing (i is.Word (m is.Semicolon (lacking _ refl (m is.End (m is.Semicolon (lacking _ refl (m is.EndOfText (w)))))))))))))))))))))

abbrev operand : (n : ℕ) {rest : List Need} → Written rest → Written (part g.Unary n ∷ rest)
operand n w = chosen g.number (sample is.Number) (sampled is.Number) w

abbrev constant : (n : ℕ) {rest : List Need} → Written rest → Written (part g.Term n ∷ rest)
constant n w = chosen g.zero_term (sample is.Zero) (sampled is.Zero) w

abbrev least_group : (h : Group) (n : ℕ) (rest : List Need) → Written rest → Written (group h n ∷ rest)
least_group g.Product n rest w = grouped (operand n (left_out _ refl w))
least_group g.Sum n rest w = grouped (operand n (left_out _ refl (left_out _ refl w)))
least_group g.Expr n rest w = grouped (operand n (left_out _ refl (left_out _ refl (left_out _ refl w))))
least_group g.Conn n rest w = grouped (constant n (left_out _ refl (left_out _ refl w)))
least_group g.SomeConns n rest w = grouped (constant n (left_out _ refl (left_out _ refl (left_out _ refl w))))
least_group g.SomeFormals n rest w = grouped (least_part g.Formal n _ (left_out _ refl w))
least_group g.Assigns n rest w = grouped (least_part g.Assign n _ (left_out _ refl w))
least_group g.Entries n rest w = grouped (least_part g.Entry n _ (left_out _ refl w))
least_group g.Conns n rest w = lacking _ refl w
least_group g.Formals n rest w = lacking _ refl w
least_group g.Constants n rest w = lacking _ refl w
least_group (g.Statements v) n rest w = lacking _ refl w
least_group (g.Macros v) n rest w = lacking _ refl w
least_group g.Cases n rest w = lacking _ refl w

-- something that is written there
pub least : (needs : List Need) → Written needs
least [] = nothing
least (mark l ∷ rest) = m l (least rest)
least (item l ∷ rest) = i l (least rest)
least (keyword x ∷ rest) = worded (word (keyword_text x)) (worded_word x) refl (least rest)
least (fresh ∷ rest) = begun (least rest)
least (part p n ∷ rest) = least_part p n rest (least rest)
least (group h n ∷ rest) = least_group h n rest (least rest)

-- ---- what is needed if no token is left

abbrev pub IsRefused : {needs : List Need} → Verdict needs → Type 0
IsRefused (Complete v) = ⊥
IsRefused (Refused r) = Unit {0}

-- a token is needed
pub record NeedsMore (needs : List Need) : Type 0 where
  pub written : Written needs
  pub first : Lexeme
  pub others : List Lexeme
  pub spelled : spelling written ≡ first ∷ others

more : {needs : List Need} (w : Written needs) (t : Lexeme) (ts : List Lexeme) → spelling w ≡ t ∷ ts → NeedsMore needs
more w t ts e = record { written = w; first = t; others = ts; spelled = e }

part_needs : (p : Part) (n : ℕ) (rest : List Need) → Written rest → absent_value p ≡ None → NeedsMore (part p n ∷ rest)
part_needs g.Unary n rest w e = more (least_part g.Unary n rest w) _ _ refl
part_needs g.Factors n rest w e = absurd cc
part_needs g.Terms n rest w e = absurd cc
part_needs g.Comparison n rest w e = absurd cc
part_needs g.OrEqual n rest w e = absurd cc
part_needs g.Range n rest w e = absurd cc
part_needs g.RangeEnd n rest w e = absurd cc
part_needs g.Parameters n rest w e = absurd cc
part_needs g.Assign n rest w e = more (least_part g.Assign n rest w) _ _ refl
part_needs g.MoreAssigns n rest w e = absurd cc
part_needs g.Formal n rest w e = more (least_part g.Formal n rest w) _ _ refl
part_needs g.MoreFormals n rest w e = absurd cc
part_needs g.FormalOutputs n rest w e = absurd cc
part_needs g.Delay n rest w e = absurd cc
part_needs g.Fall n rest w e = absurd cc
part_needs g.Term n rest w e = more (least_part g.Term n rest w) _ _ refl
part_needs g.Atom n rest w e = more (least_part g.Atom n rest w) _ _ refl
part_needs g.MoreTerms n rest w e = absurd cc
part_needs g.Hold n rest w e = absurd cc
part_needs g.MoreConns n rest w e = absurd cc
part_needs g.Outputs n rest w e = absurd cc
part_needs g.Constant n rest w e = more (least_part g.Constant n rest w) _ _ refl
part_needs (g.Statement v) n rest w e = more (least_part (g.Statement v) n rest w) _ _ refl
part_needs (g.Otherwise v) n rest w e = absurd cc
part_needs (g.Macro v) n rest w e = more (least_part (g.Macro v) n rest w) _ _ refl
part_needs g.Index n rest w e = absurd cc
part_needs g.Entry n rest w e = more (least_part g.Entry n rest w) _ _ refl
part_needs g.MoreEntries n rest w e = absurd cc
part_needs g.CaseStatement n rest w e = more (least_part g.CaseStatement n rest w) _ _ refl
part_needs g.WireBounds n rest w e = absurd cc
part_needs g.PrecisionSkew n rest w e = absurd cc
part_needs g.ClockSkew n rest w e = absurd cc
part_needs (g.Text First) n rest w e = more (least_part (g.Text First) n rest w) _ _ refl
part_needs (g.Text Second) n rest w e = more (least_part (g.Text Second) n rest w) _ _ refl

group_needs : (h : Group) (n : ℕ) (rest : List Need) → Written rest → absent_group h ≡ None → NeedsMore (group h n ∷ rest)
group_needs g.Product n rest w e = more (least_group g.Product n rest w) _ _ refl
group_needs g.Sum n rest w e = more (least_group g.Sum n rest w) _ _ refl
group_needs g.Expr n rest w e = more (least_group g.Expr n rest w) _ _ refl
group_needs g.Conn n rest w e = more (least_group g.Conn n rest w) _ _ refl
group_needs g.SomeConns n rest w e = more (least_group g.SomeConns n rest w) _ _ refl
group_needs g.Conns n rest w e = absurd cc
group_needs g.SomeFormals n rest w e = more (least_group g.SomeFormals n rest w) _ _ refl
group_needs g.Formals n rest w e = absurd cc
group_needs g.Assigns n rest w e = more (least_group g.Assigns n rest w) _ _ refl
group_needs g.Entries n rest w e = more (least_group g.Entries n rest w) _ _ refl
group_needs g.Constants n rest w e = absurd cc
group_needs (g.Statements v) n rest w e = absurd cc
group_needs (g.Macros v) n rest w e = absurd cc
group_needs g.Cases n rest w e = absurd cc

-- what needs more later needs more
part_more : (p : Part) (n : ℕ) (rest : List Need) (o : Option (Meaning p)) → absent_value p ≡ o →
    (x : Verdict rest) → (IsRefused x → NeedsMore rest) → IsRefused (finish_part {p = p} {n = n} o x) → NeedsMore (part p n ∷ rest)
part_more p n rest None e x h r = part_needs p n rest (least rest) e
part_more p n rest (Some v) e (Complete u) h r = absurd r
part_more p n rest (Some v) e (Refused q) h r = let k = h tt in more (left_out v e k.written) k.first k.others k.spelled

group_more : (h : Group) (n : ℕ) (rest : List Need) (o : Option (GroupMeaning h)) → absent_group h ≡ o →
    (x : Verdict rest) → (IsRefused x → NeedsMore rest) → IsRefused (finish_group {h = h} {n = n} o x) → NeedsMore (group h n ∷ rest)
group_more h n rest None e x f r = group_needs h n rest (least rest) e
group_more h n rest (Some v) e (Complete u) f r = absurd r
group_more h n rest (Some v) e (Refused q) f r = let k = f tt in more (lacking v e k.written) k.first k.others k.spelled

fresh_more : (rest : List Need) (x : Verdict rest) → (IsRefused x → NeedsMore rest) → IsRefused (given {needs = fresh ∷ rest} (λ v. v) x) → NeedsMore (fresh ∷ rest)
fresh_more rest (Complete u) f r = absurd r
fresh_more rest (Refused q) f r = let k = f tt in more (begun k.written) k.first k.others k.spelled

pub unfinished : (needs : List Need) → IsRefused (finish needs) → NeedsMore needs
unfinished [] r = absurd r
unfinished (mark l ∷ rest) r = more (m l (least rest)) _ _ refl
unfinished (item l ∷ rest) r = more (i l (least rest)) _ _ refl
unfinished (keyword x ∷ rest) r = more (worded (word (keyword_text x)) (worded_word x) refl (least rest)) _ _ refl
unfinished (fresh ∷ rest) r = fresh_more rest (finish rest) (unfinished rest) r
unfinished (part p n ∷ rest) r = part_more p n rest (absent_value p) refl (finish rest) (unfinished rest) r
unfinished (group h n ∷ rest) r = group_more h n rest (absent_group h) refl (finish rest) (unfinished rest) r

-- ---- if nothing more is needed

pub record Done (needs : List Need) (v : Values needs) : Type 0 where
  pub written : Written needs
  pub spelled : spelling written ≡ []
  pub valued : values written ≡ v

abbrev pub DoneAt : (needs : List Need) → Verdict needs → Type 0
DoneAt needs (Complete v) = Done needs v
DoneAt needs (Refused r) = Unit {0}

part_done : (p : Part) (n : ℕ) (rest : List Need) (o : Option (Meaning p)) → absent_value p ≡ o → (x : Verdict rest) → DoneAt rest x → DoneAt (part p n ∷ rest) (finish_part o x)
part_done p n rest None e x d = tt
part_done p n rest (Some v) e (Complete u) d = record { written = left_out v e d.written; spelled = d.spelled; valued = ap (λ (y : Values rest). (v, y)) d.valued }
part_done p n rest (Some v) e (Refused q) d = tt

group_done : (h : Group) (n : ℕ) (rest : List Need) (o : Option (GroupMeaning h)) → absent_group h ≡ o → (x : Verdict rest) → DoneAt rest x → DoneAt (group h n ∷ rest) (finish_group o x)
group_done h n rest None e x d = tt
group_done h n rest (Some v) e (Complete u) d = record { written = lacking v e d.written; spelled = d.spelled; valued = ap (λ (y : Values rest). (v, y)) d.valued }
group_done h n rest (Some v) e (Refused q) d = tt

fresh_done : (rest : List Need) (x : Verdict rest) → DoneAt rest x → DoneAt (fresh ∷ rest) (given {needs = fresh ∷ rest} (λ v. v) x)
fresh_done rest (Complete u) d = record { written = begun d.written; spelled = d.spelled; valued = d.valued }
fresh_done rest (Refused q) d = tt

pub finished : (needs : List Need) → DoneAt needs (finish needs)
finished [] = record { written = nothing; spelled = refl; valued = refl }
finished (mark l ∷ rest) = tt
finished (item l ∷ rest) = tt
finished (keyword x ∷ rest) = tt
finished (fresh ∷ rest) = fresh_done rest (finish rest) (finished rest)
finished (part p n ∷ rest) = part_done p n rest (absent_value p) refl (finish rest) (finished rest)
finished (group h n ∷ rest) = group_done h n rest (absent_group h) refl (finish rest) (finished rest)

-- what is spelled by no token is all left out
pub empty : {needs : List Need} (w : Written needs) → spelling w ≡ [] → finish needs ≡ Complete (values w)
empty nothing e = refl
empty (marked t h w) e = absurd cc
empty (token t h w) e = absurd cc
empty (worded t h i w) e = absurd cc
empty (begun {rest = rest} w) e = ap (λ (x : Verdict rest). given {needs = fresh ∷ rest} (λ v. v) x) (empty w e)
empty (chosen c t h w) e = absurd cc
empty (left_out {p = p} {n = n} {rest = rest} v h w) e = ap (λ (o : Option (Meaning p)). finish_part {p = p} {n = n} o (finish rest)) h
    ∙ ap (λ (x : Verdict rest). given {needs = part p n ∷ rest} (λ y. (v, y)) x) (empty w e)
empty (grouped (chosen c t h w)) e = absurd cc
empty (grouped {g = g} (left_out v h w)) e = let k = leads g in absurd cc
empty (lacking {g = g} {n = n} {rest = rest} v h w) e = ap (λ (o : Option (GroupMeaning g)). finish_group {h = g} {n = n} o (finish rest)) h
    ∙ ap (λ (x : Verdict rest). given {needs = group g n ∷ rest} (λ y. (v, y)) x) (empty w e)
