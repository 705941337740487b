-- Texts that stand for themselves, with the spaces around them.
use Rattle.std.proofs.Common.{◌≡◌, ℕ, Bool, true, false, not, List, [], ◌∷◌, ◌++◌, nat_le, length, Some, refl, ap, ◌∙◌, rules, tests}
use Rattle.std.specs.Prelude.{codes, ◌&&◌, ◌==◌}
use Rattle.std.specs.List.{list_all}
use Rattle.std.proofs.lemmas.Bool.{and_parts, not-true}
use Rattle.scald_lex.specs.declared.token.TokenKind.TheVariants.{Symbol}
use Rattle.scald_lex.specs.declared.piece.Piece.{Piece}
use Rattle.scald_lex.specs.declared.piece.Piece.TheVariants.{Space, LineEnd, Lexeme}
use Rattle.scald_lex.specs.declared.token.TokenKind.TheVariants.{Word, Arrow}
use Rattle.scald_base.specs.Word.{begins_word}
use Rattle.scald_lex.specs.Bytes.{is_allowed}
use Rattle.scald_lex.specs.Piece.{word_at, dash_before, piece_at}
use Rattle.drawing_tree.specs.declared.expr.Op.{Op}
use Rattle.drawing_tree.specs.declared.expr.Op.TheVariants.{Add, Sub, Mul, Div, Eq, Ne, Lt, Le, Gt, Ge}
use Rattle.drawing_tree.specs.ExpressionText.{op_text}
use Rattle.drawing_grammar.proofs.Cutting.{Bare, Cuts, bares, Lexes, lexes_on, Spells, Closes, before}
use Rattle.drawing_grammar.proofs.Leaves.{word_spells}
use Rattle.drawing_grammar.proofs.CanonicalTokens.{word, symbol, semicolon, colon, comma, equals, minus, ampersand, exclamation, less, greater, open_parenthesis, close_parenthesis, open_bracket, close_bracket, open_brace, close_brace, arrow, op_tokens}

-- by the pieces that it is cut into
literal : (s : List ℕ) (ps : List Piece) (ts : List Bare) → list_all is_allowed s ≡ true → ((rest : List ℕ) → Cuts (s ++ rest) ps rest) → ((rest : List ℕ) → bares (s ++ rest) ps ≡ ts) → Closes s ts
literal s ps ts allowed cut are = record { allowed = allowed; lexes = λ rest. record { pieces = ps; cut = cut rest; are = are rest } }

-- ---- spaces

pub two_spaces : Closes (codes "  ") []
unfolding piece_at
two_spaces = literal (codes "  ") (Space ∷ Space ∷ []) [] refl (λ rest. (refl, (refl, refl))) (λ rest. refl)

pub one_space : Closes (codes " ") []
unfolding piece_at
one_space = literal (codes " ") (Space ∷ []) [] refl (λ rest. (refl, refl)) (λ rest. refl)

pub line_end : Closes (10 ∷ []) []
unfolding piece_at
line_end = literal (10 ∷ []) (LineEnd ∷ []) [] refl (λ rest. (refl, refl)) (λ rest. refl)

-- ---- symbols

pub semicolon_closes : Closes (codes ";") semicolon
unfolding piece_at
semicolon_closes = literal (codes ";") (Lexeme (Symbol 59) 1 ∷ []) semicolon refl (λ rest. (refl, refl)) (λ rest. refl)

pub colon_closes : Closes (codes ":") colon
unfolding piece_at
colon_closes = literal (codes ":") (Lexeme (Symbol 58) 1 ∷ []) colon refl (λ rest. (refl, refl)) (λ rest. refl)

pub wide_colon_closes : Closes (codes " : ") colon
unfolding piece_at
wide_colon_closes = literal (codes " : ") (Space ∷ Lexeme (Symbol 58) 1 ∷ Space ∷ []) colon refl (λ rest. (refl, (refl, (refl, refl)))) (λ rest. refl)

pub comma_closes : Closes (codes ", ") comma
unfolding piece_at
comma_closes = literal (codes ", ") (Lexeme (Symbol 44) 1 ∷ Space ∷ []) comma refl (λ rest. (refl, (refl, refl))) (λ rest. refl)

pub equals_closes : Closes (codes "=") equals
unfolding piece_at
equals_closes = literal (codes "=") (Lexeme (Symbol 61) 1 ∷ []) equals refl (λ rest. (refl, refl)) (λ rest. refl)

pub wide_equals_closes : Closes (codes " = ") equals
unfolding piece_at
wide_equals_closes = literal (codes " = ") (Space ∷ Lexeme (Symbol 61) 1 ∷ Space ∷ []) equals refl (λ rest. (refl, (refl, (refl, refl)))) (λ rest. refl)

pub ampersand_closes : Closes (codes " & ") ampersand
unfolding piece_at
ampersand_closes = literal (codes " & ") (Space ∷ Lexeme (Symbol 38) 1 ∷ Space ∷ []) ampersand refl (λ rest. (refl, (refl, (refl, refl)))) (λ rest. refl)

pub less_closes : Closes (codes "<") less
unfolding piece_at
less_closes = literal (codes "<") (Lexeme (Symbol 60) 1 ∷ []) less refl (λ rest. (refl, refl)) (λ rest. refl)

pub greater_closes : Closes (codes ">") greater
unfolding piece_at
greater_closes = literal (codes ">") (Lexeme (Symbol 62) 1 ∷ []) greater refl (λ rest. (refl, refl)) (λ rest. refl)

pub index_end_closes : Closes (codes ">=") (greater ++ equals)
unfolding piece_at
index_end_closes = literal (codes ">=") (Lexeme (Symbol 62) 1 ∷ Lexeme (Symbol 61) 1 ∷ []) (greater ++ equals) refl (λ rest. (refl, (refl, refl))) (λ rest. refl)

pub open_parenthesis_closes : Closes (codes "(") open_parenthesis
unfolding piece_at
open_parenthesis_closes = literal (codes "(") (Lexeme (Symbol 40) 1 ∷ []) open_parenthesis refl (λ rest. (refl, refl)) (λ rest. refl)

pub wide_parenthesis_closes : Closes (codes " (") open_parenthesis
unfolding piece_at
wide_parenthesis_closes = literal (codes " (") (Space ∷ Lexeme (Symbol 40) 1 ∷ []) open_parenthesis refl (λ rest. (refl, (refl, refl))) (λ rest. refl)

pub close_parenthesis_closes : Closes (codes ")") close_parenthesis
unfolding piece_at
close_parenthesis_closes = literal (codes ")") (Lexeme (Symbol 41) 1 ∷ []) close_parenthesis refl (λ rest. (refl, refl)) (λ rest. refl)

pub open_bracket_closes : Closes (codes " [") open_bracket
unfolding piece_at
open_bracket_closes = literal (codes " [") (Space ∷ Lexeme (Symbol 91) 1 ∷ []) open_bracket refl (λ rest. (refl, (refl, refl))) (λ rest. refl)

pub close_bracket_closes : Closes (codes "]") close_bracket
unfolding piece_at
close_bracket_closes = literal (codes "]") (Lexeme (Symbol 93) 1 ∷ []) close_bracket refl (λ rest. (refl, refl)) (λ rest. refl)

pub open_brace_closes : Closes (codes " {") open_brace
unfolding piece_at
open_brace_closes = literal (codes " {") (Space ∷ Lexeme (Symbol 123) 1 ∷ []) open_brace refl (λ rest. (refl, (refl, refl))) (λ rest. refl)

pub close_brace_closes : Closes (codes "}") close_brace
unfolding piece_at
close_brace_closes = literal (codes "}") (Lexeme (Symbol 125) 1 ∷ []) close_brace refl (λ rest. (refl, refl)) (λ rest. refl)

pub arrow_closes : Closes (codes " -> (") (arrow ++ open_parenthesis)
unfolding piece_at dash_before
arrow_closes = literal (codes " -> (") (Space ∷ Lexeme Arrow 2 ∷ Space ∷ Lexeme (Symbol 40) 1 ∷ []) (arrow ++ open_parenthesis) refl (λ rest. (refl, (refl, (refl, (refl, refl))))) (λ rest. refl)

-- ---- operators

one_mark : (b : ℕ) → ((rest : List ℕ) → piece_at (b ∷ 32 ∷ rest) ≡ Some (Lexeme (Symbol b) 1)) → list_all is_allowed (32 ∷ b ∷ 32 ∷ []) ≡ true → Closes (32 ∷ b ∷ 32 ∷ []) (symbol b)
unfolding piece_at
one_mark b k allowed = literal (32 ∷ b ∷ 32 ∷ []) (Space ∷ Lexeme (Symbol b) 1 ∷ Space ∷ []) (symbol b) allowed (λ rest. (refl, (k rest, (refl, refl)))) (λ rest. refl)

two_marks : (b c : ℕ) → ((rest : List ℕ) → piece_at (b ∷ c ∷ rest) ≡ Some (Lexeme (Symbol b) 1)) →
    ((rest : List ℕ) → piece_at (c ∷ 32 ∷ rest) ≡ Some (Lexeme (Symbol c) 1)) →
    list_all is_allowed (32 ∷ b ∷ c ∷ 32 ∷ []) ≡ true → Closes (32 ∷ b ∷ c ∷ 32 ∷ []) (symbol b ++ symbol c)
unfolding piece_at
two_marks b c h k allowed = literal (32 ∷ b ∷ c ∷ 32 ∷ []) (Space ∷ Lexeme (Symbol b) 1 ∷ Lexeme (Symbol c) 1 ∷ Space ∷ [])
    (symbol b ++ symbol c) allowed (λ rest. (refl, (h (32 ∷ rest), (k rest, (refl, refl))))) (λ rest. refl)

pub op_closes : (op : Op) → Closes (op_text op) (op_tokens op)
unfolding piece_at dash_before
op_closes Add = one_mark 43 (λ rest. refl) refl
op_closes Sub = one_mark 45 (λ rest. refl) refl
op_closes Mul = one_mark 42 (λ rest. refl) refl
op_closes Div = one_mark 47 (λ rest. refl) refl
op_closes Eq = one_mark 61 (λ rest. refl) refl
op_closes Ne = two_marks 33 61 (λ rest. refl) (λ rest. refl) refl
op_closes Lt = one_mark 60 (λ rest. refl) refl
op_closes Le = two_marks 60 61 (λ rest. refl) (λ rest. refl) refl
op_closes Gt = one_mark 62 (λ rest. refl) refl
op_closes Ge = two_marks 62 61 (λ rest. refl) (λ rest. refl) refl

-- ---- a minus

-- A minus before this byte makes neither a comment nor an arrow.
abbrev pub is_plain_first : List ℕ → Bool
is_plain_first [] = false
is_plain_first (b ∷ bs) = not (b == 45) && not (b == 62)

piece_of_dash : (bs : List ℕ) → piece_at (45 ∷ bs) ≡ Some (dash_before bs)
unfolding piece_at
piece_of_dash bs = refl

plain_dash : (b : ℕ) (bs : List ℕ) → (b == 45) ≡ false → (b == 62) ≡ false → dash_before (b ∷ bs) ≡ Lexeme (Symbol 45) 1
unfolding dash_before
plain_dash b bs h k = rw (h, k) refl

lexes_minus : (b : ℕ) (bs rest : List ℕ) → is_plain_first (b ∷ bs) ≡ true → Lexes (45 ∷ ((b ∷ bs) ++ rest)) minus ((b ∷ bs) ++ rest)
lexes_minus b bs rest h =
    let a = and_parts (not (b == 45)) (not (b == 62)) h in
    record {
      pieces = Lexeme (Symbol 45) 1 ∷ [];
      cut = (piece_of_dash ((b ∷ bs) ++ rest) ∙ ap (λ (p : Piece). Some p) (plain_dash b (bs ++ rest) (not-true (b == 45) a.0) (not-true (b == 62) a.1)), refl);
      are = refl;
    }

pub minus_before : (s : List ℕ) (ts : List Bare) → Spells s ts → is_plain_first s ≡ true → Spells (codes "-" ++ s) (minus ++ ts)
minus_before [] ts is h = absurd cc
minus_before (b ∷ bs) ts is h = record {
  allowed = rw is.allowed refl;
  lexes = λ rest k. lexes_on (45 ∷ ((b ∷ bs) ++ rest)) minus ((b ∷ bs) ++ rest) ts rest (lexes_minus b bs rest h) (is.lexes rest k);
}

-- ---- words with the spaces around them

-- a word of letters, with a space after it
spaced : (s : List ℕ) → list_all is_allowed (s ++ 32 ∷ []) ≡ true →
    ((rest : List ℕ) → Cuts ((s ++ 32 ∷ []) ++ rest) (Lexeme Word (length s) ∷ Space ∷ []) rest) →
    ((rest : List ℕ) → bares ((s ++ 32 ∷ []) ++ rest) (Lexeme Word (length s) ∷ Space ∷ []) ≡ word s) → Closes (s ++ 32 ∷ []) (word s)
spaced s allowed cut are = literal (s ++ 32 ∷ []) (Lexeme Word (length s) ∷ Space ∷ []) (word s) allowed cut are

pub scald_closes : Closes (codes "SCALD ") (word (codes "SCALD"))
unfolding piece_at word_at
scald_closes = spaced (codes "SCALD") refl (λ rest. (refl, (refl, refl))) (λ rest. refl)

pub clock_closes : Closes (codes "CLOCK ") (word (codes "CLOCK"))
unfolding piece_at word_at
clock_closes = spaced (codes "CLOCK") refl (λ rest. (refl, (refl, refl))) (λ rest. refl)

pub by_closes : Closes (codes " x ") (word (codes "x"))
unfolding piece_at word_at
by_closes = literal (codes " x ") (Space ∷ Lexeme Word 1 ∷ Space ∷ []) (word (codes "x")) refl (λ rest. (refl, (refl, (refl, refl)))) (λ rest. refl)

pub wire_closes : Closes (codes "WIRE ") (word (codes "WIRE"))
unfolding piece_at word_at
wire_closes = spaced (codes "WIRE") refl (λ rest. (refl, (refl, refl))) (λ rest. refl)

pub pskew_closes : Closes (codes "PSKEW ") (word (codes "PSKEW"))
unfolding piece_at word_at
pskew_closes = spaced (codes "PSKEW") refl (λ rest. (refl, (refl, refl))) (λ rest. refl)

pub cskew_closes : Closes (codes "CSKEW ") (word (codes "CSKEW"))
unfolding piece_at word_at
cskew_closes = spaced (codes "CSKEW") refl (λ rest. (refl, (refl, refl))) (λ rest. refl)

pub macro_closes : Closes (codes "MACRO ") (word (codes "MACRO"))
unfolding piece_at word_at
macro_closes = spaced (codes "MACRO") refl (λ rest. (refl, (refl, refl))) (λ rest. refl)

pub drawing_closes : Closes (codes "DRAWING ") (word (codes "DRAWING"))
unfolding piece_at word_at
drawing_closes = spaced (codes "DRAWING") refl (λ rest. (refl, (refl, refl))) (λ rest. refl)

pub case_closes : Closes (codes "CASE ") (word (codes "CASE"))
unfolding piece_at word_at
case_closes = spaced (codes "CASE") refl (λ rest. (refl, (refl, refl))) (λ rest. refl)

pub if_closes : Closes (codes "IF ") (word (codes "IF"))
unfolding piece_at word_at
if_closes = spaced (codes "IF") refl (λ rest. (refl, (refl, refl))) (λ rest. refl)

pub const_closes : Closes (codes "CONST ") (word (codes "CONST"))
unfolding piece_at word_at
const_closes = spaced (codes "CONST") refl (λ rest. (refl, (refl, refl))) (λ rest. refl)

pub for_closes : Closes (codes "FOR ") (word (codes "FOR"))
unfolding piece_at word_at
for_closes = spaced (codes "FOR") refl (λ rest. (refl, (refl, refl))) (λ rest. refl)

pub to_closes : Closes (codes " TO ") (word (codes "TO"))
unfolding piece_at word_at
to_closes = literal (codes " TO ") (Space ∷ Lexeme Word 2 ∷ Space ∷ []) (word (codes "TO")) refl (λ rest. (refl, (refl, (refl, refl)))) (λ rest. refl)

pub end_closes : Closes (codes "END;") (word (codes "END") ++ semicolon)
unfolding piece_at word_at
end_closes = literal (codes "END;") (Lexeme Word 3 ∷ Lexeme (Symbol 59) 1 ∷ []) (word (codes "END") ++ semicolon) refl (λ rest. (refl, (refl, refl))) (λ rest. refl)

short_word : (text : List ℕ) → begins_word text ≡ true → nat_le (length text) 64 ≡ true → Spells text (word text)
short_word text form short = word_spells text (record { form = form; short = search (rules, tests) })

pub zero_spells : Spells (codes "ZERO") (word (codes "ZERO"))
zero_spells = short_word (codes "ZERO") refl refl

pub one_spells : Spells (codes "ONE") (word (codes "ONE"))
one_spells = short_word (codes "ONE") refl refl

pub else_spells : Spells (codes "ELSE") (word (codes "ELSE"))
else_spells = short_word (codes "ELSE") refl refl

pub then_spells : Spells (codes " THEN") (word (codes "THEN"))
then_spells = before (codes " ") (codes "THEN") [] (word (codes "THEN")) one_space (short_word (codes "THEN") refl refl)

pub do_spells : Spells (codes " DO") (word (codes "DO"))
do_spells = before (codes " ") (codes "DO") [] (word (codes "DO")) one_space (short_word (codes "DO") refl refl)

mark_closes : Closes (codes " !") exclamation
unfolding piece_at
mark_closes = literal (codes " !") (Space ∷ Lexeme (Symbol 33) 1 ∷ []) exclamation refl (λ rest. (refl, (refl, refl))) (λ rest. refl)

pub hold_spells : Spells (codes " !H") (exclamation ++ word (codes "H"))
hold_spells = before (codes " !") (codes "H") exclamation (word (codes "H")) mark_closes (short_word (codes "H") refl refl)
