-- The kind of a token as a number of 64 bits: a number as itself, all else above the greatest
-- number of a token.
use Rattle.std.specs.Prelude.{ℕ, ◌==◌, ◌%◌, nat_le, if◌then◌else◌, pos, negsuc, ⊤}
use Rattle.scald_lex.specs.declared.token.TokenKind.{TokenKind}
use Rattle.scald_lex.specs.declared.token.TokenKind.TheVariants.{Word, Number, Name, Arrow, Symbol, End}
use Rattle.scald_lex.specs.Piece.{greatest_number}

abbrev pub word_code : ℕ
word_code = 9223372036854775808

abbrev pub name_code : ℕ
name_code = 9223372036854775809

abbrev pub arrow_code : ℕ
arrow_code = 9223372036854775810

abbrev pub end_code : ℕ
end_code = 9223372036854775811

-- the kind that a number stands for; a symbol has its byte in the last eight bits
unfoldable pub kind_by : ℕ → TokenKind
kind_by code =
    if nat_le code greatest_number then Number (pos code)
    else if code == word_code then Word
    else if code == name_code then Name
    else if code == arrow_code then Arrow
    else if code == end_code then End
    else Symbol (code % 256)

-- A number stands for it: it is no negative number.
abbrev pub HasCode : TokenKind → Type 0
HasCode (Number (pos n)) = ⊤
HasCode (Number (negsuc n)) = ⊥
HasCode kind = ⊤
