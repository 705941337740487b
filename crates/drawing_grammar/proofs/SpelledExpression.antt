-- The tokens of a canonical expression are those of its parts.
use Rattle.std.proofs.Common.{◌≡◌, ℕ, ◌<◌, ◌≤◌, Bool, true, false, pos, negsuc, decimal, List, [], ◌∷◌, ◌++◌, length, refl, arith}
use Rattle.std.specs.Prelude.{codes, ◌||◌}
use Rattle.std.specs.List.{list_all}
use Rattle.std.proofs.lemmas.Bool.Decides.{nat_tests}
use Rattle.std.proofs.lemmas.Bool.{and_parts}
use Rattle.scald_base.specs.Word.{is_letter, is_digit, is_word_byte, IsWord}
use Rattle.scald_lex.specs.Piece.{greatest_number}
use Rattle.drawing_tree.specs.declared.expr.Op.{Op}
use Rattle.drawing_tree.specs.declared.expr.Op.TheVariants.{Add, Sub, Mul, Div, Eq, Ne, Lt, Le, Gt, Ge}
use Rattle.drawing_tree.specs.Expression.{Expression, Number, Param, Negate, Binary}
use Rattle.drawing_tree.specs.ExpressionText.{adds, multiplies, compares, is_comparison, left_enclosed, right_enclosed, minus_enclosed, enclosed, op_text, condition_text, sum_text}
use Rattle.drawing_tree.specs.Canonical.{bounds_text}
use Rattle.drawing_grammar.proofs.Cutting.{Bare, breaks, Spells, closed, before, then_closed}
use Rattle.drawing_grammar.proofs.Leaves.{is_numeral, word_spells, number_spells}
use Rattle.drawing_grammar.proofs.Literals.{open_parenthesis_closes, close_parenthesis_closes, colon_closes, op_closes, is_plain_first, minus_before}
use Rattle.drawing_grammar.proofs.CanonicalTokens.{open_parenthesis, close_parenthesis, colon, enclosed_tokens, op_tokens, condition_tokens, sum_tokens, bounds_tokens}
use Rattle.drawing_grammar.proofs.Drawable.{IsDrawn}

pub enclosed_spells : (asked : Bool) (s : List ℕ) (ts : List Bare) → Spells s ts → Spells (enclosed asked s) (enclosed_tokens asked ts)
enclosed_spells true s ts is =
    closed (codes "(" ++ s ++ codes ")") (open_parenthesis ++ ts ++ close_parenthesis)
    (then_closed (codes "(" ++ s) (codes ")") (open_parenthesis ++ ts) close_parenthesis
    (before (codes "(") s open_parenthesis ts open_parenthesis_closes is) close_parenthesis_closes refl)
enclosed_spells false s ts is = is

op_breaks : (op : Op) → breaks (op_text op) ≡ true
op_breaks Add = refl
op_breaks Sub = refl
op_breaks Mul = refl
op_breaks Div = refl
op_breaks Eq = refl
op_breaks Ne = refl
op_breaks Lt = refl
op_breaks Le = refl
op_breaks Gt = refl
op_breaks Ge = refl

-- ---- what a minus stands before

letter_is_plain : (b : ℕ) (bs : List ℕ) → is_letter b ≡ true → is_plain_first (b ∷ bs) ≡ true
letter_is_plain b bs h = grind (arith, nat_tests)

digit_is_plain : (b : ℕ) (bs : List ℕ) → is_digit b ≡ true → is_plain_first (b ∷ bs) ≡ true
digit_is_plain b bs h = grind (arith, nat_tests)

word_is_plain : (word : List ℕ) → IsWord word → is_plain_first word ≡ true
word_is_plain [] is = absurd (let h = is.form in cc)
word_is_plain (b ∷ bs) is = letter_is_plain b bs (and_parts (is_letter b) (list_all is_word_byte bs) is.form).0

digits_are_plain : (digits : List ℕ) → 0 < length digits → list_all is_digit digits ≡ true → is_plain_first digits ≡ true
digits_are_plain [] h k = absurd (omega arith)
digits_are_plain (b ∷ bs) h k = digit_is_plain b bs (and_parts (is_digit b) (list_all is_digit bs) k).0

number_is_plain : (n : ℕ) → n ≤ greatest_number → is_plain_first (decimal n) ≡ true
number_is_plain n h = let is = is_numeral n (omega arith) in digits_are_plain (decimal n) is.some is.all

some_kind : (op : Op) → (compares op || adds op || multiplies op || false) ≡ true
some_kind Add = refl
some_kind Sub = refl
some_kind Mul = refl
some_kind Div = refl
some_kind Eq = refl
some_kind Ne = refl
some_kind Lt = refl
some_kind Le = refl
some_kind Gt = refl
some_kind Ge = refl

enclosed_is_plain : (asked : Bool) (s : List ℕ) → asked ≡ true → is_plain_first (enclosed asked s) ≡ true
enclosed_is_plain true s h = refl
enclosed_is_plain false s h = absurd cc

pub operand_is_plain : (e : Expression) → IsDrawn e → is_plain_first (enclosed (minus_enclosed e) (condition_text e)) ≡ true
unfolding condition_text
operand_is_plain (Number (pos n)) is = number_is_plain n is
operand_is_plain (Number (negsuc n)) is = absurd is
operand_is_plain (Param name) is = word_is_plain name is.is_word
operand_is_plain (Negate operand) is = refl
operand_is_plain (Binary op left right) is = enclosed_is_plain (compares op || adds op || multiplies op || false) (condition_text (Binary op left right)) (some_kind op)

-- ---- expressions

pub condition_spells : (e : Expression) → IsDrawn e → Spells (condition_text e) (condition_tokens e)
unfolding condition_text condition_tokens
condition_spells (Number (pos n)) is = number_spells n is
condition_spells (Number (negsuc n)) is = absurd is
condition_spells (Param name) is = word_spells name is.is_word
condition_spells (Negate operand) is =
    minus_before (enclosed (minus_enclosed operand) (condition_text operand)) (enclosed_tokens (minus_enclosed operand) (condition_tokens operand))
    (enclosed_spells (minus_enclosed operand) (condition_text operand) (condition_tokens operand) (condition_spells operand is))
    (operand_is_plain operand is)
condition_spells (Binary op left right) is =
    let a = left_enclosed op left in
    let b = right_enclosed op right in
    before (enclosed a (condition_text left) ++ op_text op) (enclosed b (condition_text right))
    (enclosed_tokens a (condition_tokens left) ++ op_tokens op) (enclosed_tokens b (condition_tokens right))
    (then_closed (enclosed a (condition_text left)) (op_text op) (enclosed_tokens a (condition_tokens left)) (op_tokens op)
    (enclosed_spells a (condition_text left) (condition_tokens left) (condition_spells left is.0)) (op_closes op) (op_breaks op))
    (enclosed_spells b (condition_text right) (condition_tokens right) (condition_spells right is.1))

pub sum_spells : (e : Expression) → IsDrawn e → Spells (sum_text e) (sum_tokens e)
sum_spells e is = enclosed_spells (is_comparison e) (condition_text e) (condition_tokens e) (condition_spells e is)

pub bounds_spell : (min max : Expression) → IsDrawn min → IsDrawn max → Spells (bounds_text min max) (bounds_tokens min max)
bounds_spell min max is are =
    before (sum_text min ++ codes ":") (sum_text max) (sum_tokens min ++ colon) (sum_tokens max)
    (then_closed (sum_text min) (codes ":") (sum_tokens min) colon (sum_spells min is) colon_closes refl) (sum_spells max are)
