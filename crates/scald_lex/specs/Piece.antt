-- What stands in front of a rest of a text: a piece that is no token, or the longest token that is
-- there.
use Rattle.std.specs.Prelude.{ℕ, ◌+◌, Bool, false, ◌==◌, nat_le, if◌then◌else◌, List, [], ◌∷◌, take, drop, Option, Some, None, pos}
use Rattle.std.specs.List.{prefix_len}
use Rattle.scald_base.specs.Word.{is_letter, is_digit, is_word_byte, longest_word}
use Rattle.scald_lex.specs.declared.token.TokenKind.TheVariants.{Word, Number, Name, Arrow, Symbol}
use Rattle.scald_lex.specs.declared.piece.Piece.{Piece}
use Rattle.scald_lex.specs.declared.piece.Piece.TheVariants.{Space, LineEnd, Comment, Lexeme}
use Rattle.scald_lex.specs.Bytes.{line_end, quote, dash, tip, is_space, is_name_byte, is_comment_byte, is_symbol, value_of}

-- whether the byte b stands in front
abbrev pub begins_with : ℕ → List ℕ → Bool
begins_with b [] = false
begins_with b (c ∷ cs) = c == b

-- the greatest number of a token
abbrev pub greatest_number : ℕ
greatest_number = 9223372036854775807

-- A word goes as far as word bytes do, and is not too long.
unfoldable pub word_at : List ℕ → Option Piece
word_at rest =
    let count = prefix_len is_word_byte rest in
    if nat_le count longest_word then Some (Lexeme Word count) else None

-- A number goes as far as digits do, and is not too large. Its value counts, and not how it is
-- written.
unfoldable pub number_at : List ℕ → Option Piece
number_at rest =
    let count = prefix_len is_digit rest in
    let value = value_of (take count rest) in
    if nat_le value greatest_number then Some (Lexeme (Number (pos value)) count) else None

-- Behind a quote: a name goes up to the next quote, with nothing before that may not stand in a
-- name.
unfoldable pub name_behind : List ℕ → Option Piece
name_behind rest =
    let count = prefix_len is_name_byte rest in
    if begins_with quote (drop count rest) then Some (Lexeme Name (count + 2)) else None

-- Behind a dash: another makes a comment, up to the end of the line, and a tip an arrow.
unfoldable pub dash_before : List ℕ → Piece
dash_before rest =
    if begins_with dash rest then Comment (1 + prefix_len is_comment_byte rest)
    else if begins_with tip rest then Lexeme Arrow 2
    else Lexeme (Symbol dash) 1

-- By the first byte. None if nothing begins there.
unfoldable pub piece_at : List ℕ → Option Piece
piece_at [] = None
piece_at (b ∷ bs) =
    if is_letter b then word_at (b ∷ bs)
    else if is_space b then Some Space
    else if b == line_end then Some LineEnd
    else if is_digit b then number_at (b ∷ bs)
    else if b == quote then name_behind bs
    else if b == dash then Some (dash_before bs)
    else if is_symbol b then Some (Lexeme (Symbol b) 1)
    else None
