-- Small steps of every phrase: its tokens within the limits, a symbol of a canonical text, the tokens of a whole from those of its
-- parts, and what a list stands for.
use Rattle.std.proofs.Common.{◌≡◌, ℕ, List, [], ◌∷◌, ◌++◌, refl, sym, ap, ◌∙◌, append_assoc}
use Rattle.scald_lex.specs.declared.token.TokenKind.TheVariants as kind
use Rattle.drawing_grammar.specs.Lexeme.{Lexeme}
use Rattle.drawing_grammar.specs.Grammar.{Need}
use Rattle.drawing_grammar.specs.Sketch.{Placed, PlacedList, with_item}
use Rattle.drawing_grammar.specs.Written.{Written, spelling, weights, Within}
use Rattle.drawing_grammar.proofs.Cutting.{Bare}

-- The tokens of what is written are within the limits, if so many operators came before.
abbrev pub Fits : {needs : List Need} → Written needs → ℕ → Type 0
Fits w a = Within (spelling w) (weights w a)

abbrev pub bare_symbol : ℕ → Bare
bare_symbol byte = record { kind = kind.Symbol byte; text = byte ∷ [] }

pub spelled_between : (ts first inner before last : List Lexeme) (t u : Lexeme) (rest : List Lexeme) →
    ts ≡ before ++ last → before ≡ first ++ inner → first ≡ t ∷ [] → last ≡ u ∷ [] → t ∷ (inner ++ u ∷ rest) ≡ ts ++ rest
spelled_between ts first inner before last t u rest a b c d = rw (a, b, c, d) (ap (λ (us : List Lexeme). t ∷ us) (sym (append_assoc inner (u ∷ []) rest)))

pub spelled_single : (ts : List Lexeme) (t : Lexeme) (rest : List Lexeme) → ts ≡ t ∷ [] → t ∷ rest ≡ ts ++ rest
spelled_single ts t rest a = rw a refl

pub spelled_one : (ts first second : List Lexeme) (t : Lexeme) (rest : List Lexeme) → ts ≡ first ++ second → first ≡ t ∷ [] → t ∷ (second ++ rest) ≡ ts ++ rest
spelled_one ts first second t rest a b = rw (a, b) refl

pub spelled_pair : (ts first second before last : List Lexeme) (t u : Lexeme) (rest : List Lexeme) →
    ts ≡ before ++ last → before ≡ first ++ second → first ≡ t ∷ [] → second ≡ u ∷ [] → t ∷ u ∷ (last ++ rest) ≡ ts ++ rest
spelled_pair ts first second before last t u rest a b c d = rw (a, b, c, d) refl

pub spelled_two : (ts first second rest : List Lexeme) → ts ≡ first ++ second → first ++ (second ++ rest) ≡ ts ++ rest
spelled_two ts first second rest a = rw a (sym (append_assoc first second rest))

pub spelled_middle : (ts first before middle last : List Lexeme) (t : Lexeme) (rest : List Lexeme) →
    ts ≡ before ++ last → before ≡ first ++ middle → middle ≡ t ∷ [] → first ++ t ∷ (last ++ rest) ≡ ts ++ rest
spelled_middle ts first before middle last t rest a b c = rw (a, b, c) (sym (append_assoc (first ++ t ∷ []) last rest ∙ append_assoc first (t ∷ []) (last ++ rest)))

-- two parts between a first token and a last one
pub spelled_around : (ts a b c before first last : List Lexeme) (t u : Lexeme) (rest : List Lexeme) →
    ts ≡ before ++ last → before ≡ a ++ b → a ≡ first ++ c → first ≡ t ∷ [] → last ≡ u ∷ [] → t ∷ (c ++ (b ++ u ∷ rest)) ≡ ts ++ rest
spelled_around ts a b c before first last t u rest e f h i j =
    rw (e, f, h, i, j) (ap (λ (us : List Lexeme). t ∷ us) (sym (append_assoc (c ++ b) (u ∷ []) rest ∙ append_assoc c b (u ∷ rest))))

-- a mark, an item and what follows it
pub spelled_item : (ts first second before last : List Lexeme) (t : Lexeme) (rest : List Lexeme) →
    ts ≡ before ++ last → before ≡ first ++ second → first ≡ t ∷ [] → t ∷ (second ++ (last ++ rest)) ≡ ts ++ rest
spelled_item ts first second before last t rest e f h = rw (e, f, h) (ap (λ (us : List Lexeme). t ∷ us) (sym (append_assoc second last rest)))

-- ---- what lists of items stand for

pub cons_stands : {A : Type 0} (x : A) (xs : List A) (y : A) (ys : List A) → y ≡ x → ys ≡ xs → y ∷ ys ≡ x ∷ xs
cons_stands x xs y ys e f = rw (e, f) refl

pub items_stand : {A : Type 0} (x : A) (xs : List A) (first : Placed A) (more : PlacedList A) → first.item ≡ x → more.items ≡ xs → (with_item first more).items ≡ x ∷ xs
items_stand x xs first more e f = rw (e, f) refl
