-- A token with its text, and what the grammar distinguishes among tokens.
use Rattle.std.specs.Prelude.{ℕ, ◌==◌, ◌||◌, Bool, false, ℤ, pos, if◌then◌else◌, List, [], ◌∷◌, codes, map, slice_range}
use Rattle.std.specs.Str.{bytes_eq}
use Rattle.scald_base.specs.declared.refusal.Place.{Place}
use Rattle.scald_lex.specs.declared.token.TokenKind.{TokenKind}
use Rattle.scald_lex.specs.declared.token.TokenKind.TheVariants as kind
use Rattle.scald_lex.specs.declared.token.Token as lex
use Rattle.drawing_grammar.specs.declared.terminal.Terminal.{Terminal}
use Rattle.drawing_grammar.specs.declared.terminal.Terminal.TheVariants.{Scald, Clock, Wire, Pskew, Cskew, Macro, Drawing, Case, If, Then, Else, End, Zero, One, Word, Number, Name, Arrow, Semicolon, Colon, Comma, OpenParenthesis, CloseParenthesis, Less, Greater, OpenBracket, CloseBracket, OpenBrace, CloseBrace, Equals, Plus, Minus, Star, Slash, Ampersand, Exclamation, EndOfText}

-- a token, with the bytes that it is
pub record Lexeme : Type 0 where
  pub kind : TokenKind
  pub text : List ℕ
  pub place : Place

abbrev pub lexeme_of : List ℕ → lex.Token → Lexeme
lexeme_of text t = record { kind = t.kind; text = slice_range text t.start t.end; place = t.place }

-- the tokens of a text with their bytes
abbrev pub lexemes : List ℕ → List lex.Token → List Lexeme
lexemes text tokens = map (lexeme_of text) tokens

-- a word stands for itself if it is reserved
unfoldable pub word_terminal : List ℕ → Terminal
word_terminal word =
    if bytes_eq word (codes "SCALD") then Scald
    else if bytes_eq word (codes "CLOCK") then Clock
    else if bytes_eq word (codes "WIRE") then Wire
    else if bytes_eq word (codes "PSKEW") then Pskew
    else if bytes_eq word (codes "CSKEW") then Cskew
    else if bytes_eq word (codes "MACRO") then Macro
    else if bytes_eq word (codes "DRAWING") then Drawing
    else if bytes_eq word (codes "CASE") then Case
    else if bytes_eq word (codes "IF") then If
    else if bytes_eq word (codes "THEN") then Then
    else if bytes_eq word (codes "ELSE") then Else
    else if bytes_eq word (codes "END") then End
    else if bytes_eq word (codes "ZERO") then Zero
    else if bytes_eq word (codes "ONE") then One
    else Word

-- a letter that a reserved word begins with
abbrev pub is_first : ℕ → Bool
is_first b =
    b == 67 || (b == 68 || (b == 69
    || (b == 73 || (b == 77 || (b == 79
    || (b == 80 || (b == 83 || (b == 84 || (b == 87 || b == 90)))))))))

abbrev pub begins_reserved : List ℕ → Bool
begins_reserved [] = false
begins_reserved (b ∷ bs) = is_first b

-- by its byte; the last is `!`
unfoldable pub symbol_terminal : ℕ → Terminal
symbol_terminal byte =
    if byte == 59 then Semicolon
    else if byte == 58 then Colon
    else if byte == 44 then Comma
    else if byte == 40 then OpenParenthesis
    else if byte == 41 then CloseParenthesis
    else if byte == 60 then Less
    else if byte == 62 then Greater
    else if byte == 91 then OpenBracket
    else if byte == 93 then CloseBracket
    else if byte == 123 then OpenBrace
    else if byte == 125 then CloseBrace
    else if byte == 61 then Equals
    else if byte == 43 then Plus
    else if byte == 45 then Minus
    else if byte == 42 then Star
    else if byte == 47 then Slash
    else if byte == 38 then Ampersand
    else Exclamation

abbrev pub terminal_by : TokenKind → List ℕ → Terminal
terminal_by kind.Word text = word_terminal text
terminal_by (kind.Number n) text = Number
terminal_by kind.Name text = Name
terminal_by kind.Arrow text = Arrow
terminal_by (kind.Symbol byte) text = symbol_terminal byte
terminal_by kind.End text = EndOfText

-- what the grammar takes it for
abbrev pub terminal : Lexeme → Terminal
terminal x = terminal_by x.kind x.text

-- the value of a number, and 0 of what is none
abbrev pub kind_number : TokenKind → ℤ
kind_number kind.Word = pos 0
kind_number (kind.Number n) = n
kind_number kind.Name = pos 0
kind_number kind.Arrow = pos 0
kind_number (kind.Symbol byte) = pos 0
kind_number kind.End = pos 0

abbrev pub number_of : Lexeme → ℤ
number_of x = kind_number x.kind
