-- Which bytes a text may hold, and what each may stand for. Letters, digits and the bytes of a word
-- are those of scald_base's words.
use Rattle.std.specs.Prelude.{ℕ, ◌+◌, ◌-◌, ◌*◌, Bool, not, ◌&&◌, ◌||◌, ◌==◌, nat_le, List, [], ◌∷◌, codes}
use Rattle.std.specs.List.{list_any}

-- the byte that ends a line
abbrev pub line_end : ℕ
line_end = 10

abbrev pub is_printable : ℕ → Bool
is_printable b = nat_le 32 b && nat_le b 126

-- tabulator, carriage return and space stand between tokens
abbrev pub is_space : ℕ → Bool
is_space b = b == 9 || b == 13 || b == 32

-- A text holds printable bytes, tabulators, ends of lines and carriage returns.
abbrev pub is_allowed : ℕ → Bool
is_allowed b = is_printable b || b == 9 || b == 10 || b == 13

-- the mark before and after a name
abbrev pub quote : ℕ
quote = 34

-- a second one makes a comment, a tip an arrow
abbrev pub dash : ℕ
dash = 45

abbrev pub tip : ℕ
tip = 62

-- what may stand between the quotes of a name
abbrev pub is_name_byte : ℕ → Bool
is_name_byte b = is_printable b && not (b == quote)

-- what may stand in a comment: all that is of its line
abbrev pub is_comment_byte : ℕ → Bool
is_comment_byte b = not (b == line_end)

-- the bytes that stand for themselves
abbrev pub is_symbol : ℕ → Bool
is_symbol b = list_any (λ s. b == s) (codes ";:,()<>[]{}=+-*/&!")

-- The number that digits stand for, after the digits of a number n.
abbrev pub value_after : ℕ → List ℕ → ℕ
value_after n [] = n
value_after n (b ∷ bs) = value_after (n * 10 + (b - 48)) bs

-- the number that digits stand for, in ten
abbrev pub value_of : List ℕ → ℕ
value_of digits = value_after 0 digits
