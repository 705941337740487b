-- What is written by the grammar: the tokens that spell it, how far each of them goes towards a
-- limit, and its tree.
use Rattle.std.specs.Prelude.{◌≡◌, ℕ, suc, ◌≤◌, ◌<◌, List, [], ◌∷◌, ◌++◌, Some, ⊤}
use Rattle.drawing_grammar.specs.declared.terminal.Keyword.{Keyword}
use Rattle.drawing_grammar.specs.declared.terminal.Terminal.{Terminal}
use Rattle.drawing_grammar.specs.declared.terminal.Terminal.TheVariants.{Word}
use Rattle.drawing_grammar.specs.declared.terminal.Keyword.TheVariants.{Const, For}
use Rattle.drawing_grammar.specs.Lexeme.{Lexeme, terminal}
use Rattle.drawing_grammar.specs.Grammar.{Part, Group, keyword_text, Need, mark, item, keyword, fresh, part, group, Choice, constant, for_, opening, following, lead, others, Cost, plain, opens, operator, cost}
use Rattle.drawing_grammar.specs.Sketch.{Meaning, GroupMeaning, Values, front, behind, choice_value, group_value}
use Rattle.drawing_grammar.specs.Absent.{absent_value, absent_group}

-- the token is this keyword
abbrev pub Is : Keyword → Lexeme → Type 0
Is x t = (terminal t ≡ Word) × (t.text ≡ keyword_text x)

-- The token may begin the choice. A constant and a FOR begin with a word of their own, any other
-- choice with what the grammar takes the token for.
abbrev pub MayOpen : {p : Part} → Choice p → Lexeme → Type 0
MayOpen constant t = Is Const t
MayOpen for_ t = Is For t
MayOpen c t = terminal t ≡ opening c

-- What is written where these are needed, one after another. Of a part one of its choices is
-- written, or it is left out. Of a group its first part and the others are written, or it is left
-- out.
pub data Written : List Need → Type 0 where
  nothing : Written []
  marked : {l : Terminal} {rest : List Need} (t : Lexeme) → terminal t ≡ l → Written rest →
      Written (mark l ∷ rest)
  token : {l : Terminal} {rest : List Need} (t : Lexeme) → terminal t ≡ l → Written rest →
      Written (item l ∷ rest)
  worded : {x : Keyword} {rest : List Need} (t : Lexeme) → terminal t ≡ Word →
      t.text ≡ keyword_text x → Written rest → Written (keyword x ∷ rest)
  begun : {rest : List Need} → Written rest → Written (fresh ∷ rest)
  chosen : {p : Part} {n : ℕ} {rest : List Need} (c : Choice p) (t : Lexeme) → MayOpen c t →
      Written (following c n ++ rest) → Written (part p n ∷ rest)
  left_out : {p : Part} {n : ℕ} {rest : List Need} (v : Meaning p) → absent_value p ≡ Some v →
      Written rest → Written (part p n ∷ rest)
  grouped : {g : Group} {n : ℕ} {rest : List Need} →
      Written (part (lead g) n ∷ (others g n ++ rest)) → Written (group g n ∷ rest)
  lacking : {g : Group} {n : ℕ} {rest : List Need} (v : GroupMeaning g) → absent_group g ≡ Some v →
      Written rest → Written (group g n ∷ rest)

-- the tokens that spell it
abbrev pub spelling : {needs : List Need} → Written needs → List Lexeme
spelling nothing = []
spelling (marked t e w) = t ∷ spelling w
spelling (token t e w) = t ∷ spelling w
spelling (worded t e f w) = t ∷ spelling w
spelling (begun w) = spelling w
spelling (chosen c t e w) = t ∷ spelling w
spelling (left_out v e w) = spelling w
spelling (grouped w) = spelling w
spelling (lacking v e w) = spelling w

-- how many parentheses and minus signs, or IFs and FORs, are open with a token that opens one more,
-- and which binary operator of its expression a token is, if a came before
abbrev pub weight : Cost → ℕ → ℕ → ℕ
weight plain n a = 0
weight opens n a = suc n
weight operator n a = suc a

-- how many binary operators have come with it
abbrev pub counted : Cost → ℕ → ℕ
counted plain a = a
counted opens a = a
counted operator a = suc a

-- The weight of each token, if a binary operators of the expression came before. An expression
-- of its own begins with none.
abbrev pub weights : {needs : List Need} → Written needs → ℕ → List ℕ
weights nothing a = []
weights (marked t e w) a = 0 ∷ weights w a
weights (token t e w) a = 0 ∷ weights w a
weights (worded t e f w) a = 0 ∷ weights w a
weights (begun w) a = weights w 0
weights (chosen {n = n} c t e w) a = weight (cost c) n a ∷ weights w (counted (cost c) a)
weights (left_out v e w) a = weights w a
weights (grouped w) a = weights w a
weights (lacking v e w) a = weights w a

-- what it stands for
abbrev pub values : {needs : List Need} → Written needs → Values needs
values nothing = tt
values (marked t e w) = values w
values (token t e w) = (t, values w)
values (worded t e f w) = values w
values (begun w) = values w
values (chosen {n = n} {rest = rest} c t e w) =
    let v = values w in
    (choice_value c n t (front (following c n) rest v), behind (following c n) rest v)
values (left_out v e w) = (v, values w)
values (grouped {g = g} {n = n} {rest = rest} w) =
    let v = values w in
    (group_value g n v.0 (front (others g n) rest v.1), behind (others g n) rest v.1)
values (lacking v e w) = (v, values w)

-- the most that may be open at once, and the most binary operators of an expression
abbrev pub limit : ℕ
limit = 64

-- Each of the first tokens is within the limits.
abbrev pub Within : List Lexeme → List ℕ → Type 0
Within [] weights = ⊤
Within (t ∷ ts) [] = ⊥
Within (t ∷ ts) (m ∷ weights) = (m ≤ limit) × Within ts weights

-- The token after these is beyond them.
abbrev pub Beyond : List Lexeme → List ℕ → Type 0
Beyond ts [] = ⊥
Beyond [] (m ∷ weights) = limit < m
Beyond (t ∷ ts) (m ∷ weights) = Beyond ts weights
