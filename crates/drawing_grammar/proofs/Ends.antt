-- The end of a text is its last token.
use Rattle.std.proofs.Common.{◌≡◌, ℕ, Bool, true, false, not, ◌&&◌, List, [], ◌∷◌, ◌++◌, refl, sym, ap, ◌∙◌}
use Rattle.std.proofs.lemmas.Bool.{and_parts, not-true}
use Rattle.drawing_grammar.specs.declared.terminal.Terminal.{Terminal}
use Rattle.drawing_grammar.specs.declared.terminal.Terminal.TheVariants as is
use Rattle.drawing_grammar.specs.declared.edition.Edition.{Edition}
use Rattle.drawing_grammar.specs.declared.edition.Edition.TheVariants.{First, Second}
use Rattle.drawing_grammar.specs.Lexeme.{Lexeme, terminal}
use Rattle.drawing_grammar.specs.Grammar.{Part, Group, Need, mark, item, keyword, fresh, part, group, Choice, opening, following, lead, others}
use Rattle.drawing_grammar.specs.Grammar as g
use Rattle.drawing_grammar.specs.Written.{Written, nothing, marked, token, worded, begun, chosen, left_out, grouped, lacking, spelling}
use Rattle.drawing_grammar.specs.Draws.{whole}
use Rattle.drawing_grammar.specs.Machine.{same}
use Rattle.drawing_grammar.proofs.Terminals.{is_same}
use Rattle.drawing_grammar.proofs.Choices.{opens_so}

abbrev pub is_end : Terminal → Bool
is_end l = same l is.EndOfText

abbrev is_whole : Part → Bool
is_whole (g.Text v) = true
is_whole _ = false

-- the end is not among these
abbrev inner : List Need → Bool
inner [] = true
inner (mark l ∷ rest) = not (is_end l) && inner rest
inner (item l ∷ rest) = not (is_end l) && inner rest
inner (keyword x ∷ rest) = inner rest
inner (fresh ∷ rest) = inner rest
inner (part p n ∷ rest) = not (is_whole p) && inner rest
inner (group h n ∷ rest) = inner rest

-- after the end nothing is needed
abbrev pub Tidy : List Need → Type 0
Tidy [] = Unit {0}
Tidy (mark l ∷ rest) = (is_end l ≡ true → rest ≡ []) × Tidy rest
Tidy (item l ∷ rest) = (is_end l ≡ false) × Tidy rest
Tidy (keyword x ∷ rest) = Tidy rest
Tidy (fresh ∷ rest) = Tidy rest
Tidy (part p n ∷ rest) = (is_whole p ≡ false) × Tidy rest
Tidy (group h n ∷ rest) = Tidy rest

tidy_on : (xs rest : List Need) → inner xs ≡ true → Tidy rest → Tidy (xs ++ rest)
tidy_on [] rest e t = t
tidy_on (mark l ∷ xs) rest e t = let k = and_parts (not (is_end l)) (inner xs) e in (λ f. let h = not-true (is_end l) k.0 in absurd cc, tidy_on xs rest k.1 t)
tidy_on (item l ∷ xs) rest e t = let k = and_parts (not (is_end l)) (inner xs) e in (not-true (is_end l) k.0, tidy_on xs rest k.1 t)
tidy_on (keyword x ∷ xs) rest e t = tidy_on xs rest e t
tidy_on (fresh ∷ xs) rest e t = tidy_on xs rest e t
tidy_on (part p n ∷ xs) rest e t = let k = and_parts (not (is_whole p)) (inner xs) e in (not-true (is_whole p) k.0, tidy_on xs rest k.1 t)
tidy_on (group h n ∷ xs) rest e t = tidy_on xs rest e t

choice_inner : {p : Part} (c : Choice p) (n : ℕ) → is_whole p ≡ false → inner (following c n) ≡ true
choice_inner g.number n e = refl
choice_inner g.parameter n e = refl
choice_inner g.negated n e = refl
choice_inner g.bracketed n e = refl
choice_inner g.times n e = refl
choice_inner g.divided n e = refl
choice_inner g.plus n e = refl
choice_inner g.less n e = refl
choice_inner g.equal n e = refl
choice_inner g.unequal n e = refl
choice_inner g.below n e = refl
choice_inner g.above n e = refl
choice_inner g.or_equal n e = refl
choice_inner g.range n e = refl
choice_inner g.last n e = refl
choice_inner g.parameters n e = refl
choice_inner g.assign n e = refl
choice_inner g.next_assign n e = refl
choice_inner g.formal n e = refl
choice_inner g.next_formal n e = refl
choice_inner g.formal_outputs n e = refl
choice_inner g.delay n e = refl
choice_inner g.fall n e = refl
choice_inner g.complement n e = refl
choice_inner g.zero_term n e = refl
choice_inner g.one_term n e = refl
choice_inner g.named_term n e = refl
choice_inner g.zero_atom n e = refl
choice_inner g.one_atom n e = refl
choice_inner g.named_atom n e = refl
choice_inner g.next_term n e = refl
choice_inner g.hold n e = refl
choice_inner g.next_conn n e = refl
choice_inner g.outputs n e = refl
choice_inner g.constant n e = refl
choice_inner g.use_ n e = refl
choice_inner g.wire n e = refl
choice_inner g.if_ n e = refl
choice_inner g.for_ n e = refl
choice_inner g.else_ n e = refl
choice_inner g.macro n e = refl
choice_inner g.index n e = refl
choice_inner g.entry n e = refl
choice_inner g.next_entry n e = refl
choice_inner g.case_ n e = refl
choice_inner g.wire_bounds n e = refl
choice_inner g.precision_skew n e = refl
choice_inner g.clock_skew n e = refl
choice_inner g.text n e = absurd cc

pub opens_no_end : {p : Part} (c : Choice p) → is_end (opening c) ≡ false
opens_no_end g.number = refl
opens_no_end g.parameter = refl
opens_no_end g.negated = refl
opens_no_end g.bracketed = refl
opens_no_end g.times = refl
opens_no_end g.divided = refl
opens_no_end g.plus = refl
opens_no_end g.less = refl
opens_no_end g.equal = refl
opens_no_end g.unequal = refl
opens_no_end g.below = refl
opens_no_end g.above = refl
opens_no_end g.or_equal = refl
opens_no_end g.range = refl
opens_no_end g.last = refl
opens_no_end g.parameters = refl
opens_no_end g.assign = refl
opens_no_end g.next_assign = refl
opens_no_end g.formal = refl
opens_no_end g.next_formal = refl
opens_no_end g.formal_outputs = refl
opens_no_end g.delay = refl
opens_no_end g.fall = refl
opens_no_end g.complement = refl
opens_no_end g.zero_term = refl
opens_no_end g.one_term = refl
opens_no_end g.named_term = refl
opens_no_end g.zero_atom = refl
opens_no_end g.one_atom = refl
opens_no_end g.named_atom = refl
opens_no_end g.next_term = refl
opens_no_end g.hold = refl
opens_no_end g.next_conn = refl
opens_no_end g.outputs = refl
opens_no_end g.constant = refl
opens_no_end g.use_ = refl
opens_no_end g.wire = refl
opens_no_end g.if_ = refl
opens_no_end g.for_ = refl
opens_no_end g.else_ = refl
opens_no_end g.macro = refl
opens_no_end g.index = refl
opens_no_end g.entry = refl
opens_no_end g.next_entry = refl
opens_no_end g.case_ = refl
opens_no_end g.wire_bounds = refl
opens_no_end g.precision_skew = refl
opens_no_end g.clock_skew = refl
opens_no_end g.text = refl

lead_inner : (h : Group) → is_whole (lead h) ≡ false
lead_inner g.Product = refl
lead_inner g.Sum = refl
lead_inner g.Expr = refl
lead_inner g.Conn = refl
lead_inner g.Conns = refl
lead_inner g.SomeConns = refl
lead_inner g.SomeFormals = refl
lead_inner g.Assigns = refl
lead_inner g.Entries = refl
lead_inner g.Formals = refl
lead_inner g.Constants = refl
lead_inner (g.Statements v) = refl
lead_inner (g.Macros v) = refl
lead_inner g.Cases = refl

others_inner : (h : Group) (n : ℕ) → inner (others h n) ≡ true
others_inner g.Product n = refl
others_inner g.Sum n = refl
others_inner g.Expr n = refl
others_inner g.Conn n = refl
others_inner g.Conns n = refl
others_inner g.SomeConns n = refl
others_inner g.SomeFormals n = refl
others_inner g.Assigns n = refl
others_inner g.Entries n = refl
others_inner g.Formals n = refl
others_inner g.Constants n = refl
others_inner (g.Statements v) n = refl
others_inner (g.Macros v) n = refl
others_inner g.Cases n = refl

-- a token before others that is the end, in what is spelled
abbrev At : List Lexeme → List Lexeme → Lexeme → Lexeme → List Lexeme → Type 0
At ts before e x more = ts ≡ before ++ e ∷ x ∷ more

behind_first : (t : Lexeme) (ts before : List Lexeme) (e x : Lexeme) (more : List Lexeme) → (terminal t ≡ is.EndOfText → ts ≡ []) →
    terminal e ≡ is.EndOfText → ((b : List Lexeme) → At ts b e x more → ⊥) → At (t ∷ ts) before e x more → ⊥
behind_first t ts [] e x more f g h k = let s : t ≡ e = cc in let z = f (ap terminal s ∙ g) in absurd cc
behind_first t ts (b ∷ before) e x more f g h k = h before cc

pub end_last : {needs : List Need} (w : Written needs) (before : List Lexeme) (e x : Lexeme) (more : List Lexeme) → Tidy needs → terminal e ≡ is.EndOfText → At (spelling w) before e x more → ⊥
end_last nothing [] e x more t f k = absurd cc
end_last nothing (b ∷ before) e x more t f k = absurd cc
end_last (marked {l = l} {rest = rest} u h w) before e x more t f k =
    behind_first u (spelling w) before e x more (λ z. alone w (t.0 (is_same l is.EndOfText (sym h ∙ z)))) f (λ b. end_last w b e x more t.1 f) k
  where
    alone : {needs : List Need} (w : Written needs) → needs ≡ [] → spelling w ≡ []
    alone nothing e = refl
    alone (marked t h w) e = absurd cc
    alone (token t h w) e = absurd cc
    alone (worded t h i w) e = absurd cc
    alone (begun w) e = absurd cc
    alone (chosen c t h w) e = absurd cc
    alone (left_out v h w) e = absurd cc
    alone (grouped w) e = absurd cc
    alone (lacking v h w) e = absurd cc
end_last (token {l = l} u h w) before e x more t f k = behind_first u (spelling w) before e x more (λ z. let i =
    is_same l is.EndOfText (sym h ∙ z) in let j = t.0 in absurd cc) f (λ b. end_last w b e x more t.1 f) k
end_last (worded u h i w) before e x more t f k = behind_first u (spelling w) before e x more (λ z. absurd (word_end (sym h ∙ z))) f (λ b. end_last w b e x more t f) k
  where
    word_end : is.Word ≡ is.EndOfText → ⊥
    word_end z = cc
end_last (begun w) before e x more t f k = end_last w before e x more t f k
end_last (chosen {p = p} {n = n} {rest = rest} c u h w) before e x more t f k =
    behind_first u (spelling w) before e x more (λ z. let i = is_same (opening c) is.EndOfText (sym (opens_so c u h) ∙ z) in let j =
    opens_no_end c in absurd cc) f (λ b. end_last w b e x more (tidy_on (following c n) rest (choice_inner c n t.0) t.1) f) k
end_last (left_out v h w) before e x more t f k = end_last w before e x more t.1 f k
end_last (grouped {g = g} {n = n} {rest = rest} w) before e x more t f k = end_last w before e x more (lead_inner g, tidy_on (others g n) rest (others_inner g n) t) f k
end_last (lacking v h w) before e x more t f k = end_last w before e x more t f k

text_tidy : (v : Edition) (n : ℕ) → Tidy (following (g.text {v = v}) n ++ [])
text_tidy First n = (
  refl,
  ((λ z. absurd cc), (refl, (refl, (refl, ((λ z. absurd cc), (refl, (refl, (refl, ((λ z. absurd cc), (refl, ((λ z. absurd cc), ((λ z. absurd cc), ((λ z. absurd cc), ((λ z. refl), tt)))))))))))))),
)
text_tidy Second n = (
  refl,
  ((λ z. absurd cc), (refl, (refl, (refl, ((λ z. absurd cc), (refl, (refl, (refl, ((λ z. absurd cc), (refl, ((λ z. absurd cc), ((λ z. absurd cc), ((λ z. absurd cc), ((λ z. refl), tt)))))))))))))),
)

pub text_end_last : (v : Edition) (w : Written (whole v)) (before : List Lexeme) (e x : Lexeme) (more : List Lexeme) →
    terminal e ≡ is.EndOfText → spelling w ≡ before ++ e ∷ x ∷ more → ⊥
text_end_last v (chosen g.text u h w) before e x more f k =
    behind_first u (spelling w) before e x more (λ z. let i =
    is_same (opening (g.text {v = v})) is.EndOfText (sym h ∙ z) in
    absurd cc) f (λ b. end_last w b e x more (text_tidy v 0) f) k
text_end_last v (left_out o h w) before e x more f k = absurd cc
