-- Laws of the tokens of a text, whichever it is.
use Rattle.std.specs.Prelude.{◌≡◌, ℕ, ◌<◌, ◌≤◌, true, List, [], ◌∷◌, ◌++◌, length, take, slice_range, codes, pos, Some, ◌⊎◌}
use Rattle.std.specs.List.{All, list_all}
use Rattle.scald_base.specs.Word.{is_digit, IsWord}
use Rattle.scald_base.specs.declared.refusal.Refusal.{Refusal}
use Rattle.scald_lex.specs.declared.token.TokenKind.{TokenKind}
use Rattle.scald_lex.specs.declared.token.TokenKind.TheVariants.{Word, Number, Name, Arrow, Symbol, End}
use Rattle.scald_lex.specs.declared.token.Token.{Token}
use Rattle.scald_lex.specs.declared.piece.Piece.TheVariants.{Lexeme}
use Rattle.scald_lex.specs.Bytes.{quote, is_name_byte, is_symbol, value_of}
use Rattle.scald_lex.specs.Place.{place_at, IsPlaceOf}
use Rattle.scald_lex.specs.Piece.{greatest_number, piece_at}
use Rattle.scald_lex.specs.Tokens.{AreTokens, end_token, IsRefused}

-- A text has one list of tokens.
abbrev pub OneList : Type 0
OneList = (text : List ℕ) (a b : List Token) → AreTokens text a → AreTokens text b → a ≡ b

-- A text that has tokens is not refused.
abbrev pub NotBoth : Type 0
NotBoth =
    (text : List ℕ) (tokens : List Token) (r : Refusal) → AreTokens text tokens → ¬ IsRefused text r

-- A text is refused for one reason, at one place.
abbrev pub OneRefusal : Type 0
OneRefusal = (text : List ℕ) (r s : Refusal) → IsRefused text r → IsRefused text s → r ≡ s

-- a list of its tokens
pub record HasTokens (text : List ℕ) : Type 0 where
  pub tokens : List Token
  pub are : AreTokens text tokens

-- a refusal
pub record HasRefusal (text : List ℕ) : Type 0 where
  pub refusal : Refusal
  pub refused : IsRefused text refusal

-- Each text has tokens or a refusal.
abbrev pub TokensOrRefusal : Type 0
TokensOrRefusal = (text : List ℕ) → HasTokens text ⊎ HasRefusal text

-- a name's text, without its quotes
pub record IsQuoted (text : List ℕ) : Type 0 where
  pub inside : List ℕ
  pub marked : text ≡ quote ∷ (inside ++ quote ∷ [])
  pub printable : list_all is_name_byte inside ≡ true

pub record IsNumeral (text : List ℕ) : Type 0 where
  pub some : 0 < length text
  pub digits : list_all is_digit text ≡ true
  pub fits : value_of text ≤ greatest_number

-- The text is one of a token of this kind.
abbrev pub Spells : TokenKind → List ℕ → Type 0
Spells Word text = IsWord text
Spells (Number n) text = IsNumeral text × (n ≡ pos (value_of text))
Spells Name text = IsQuoted text
Spells Arrow text = text ≡ codes "->"
Spells (Symbol b) text = (text ≡ b ∷ []) × (is_symbol b ≡ true)
Spells End text = text ≡ []

-- A token's slice is its text, and its place that of its first byte.
pub record IsTokenOf (text : List ℕ) (t : Token) : Type 0 where
  pub some : t.start < t.end
  pub within : t.end ≤ length text
  pub place : t.place ≡ place_at text t.start
  pub spelled : Spells t.kind (slice_range text t.start t.end)

-- From this byte on the tokens stand in order, each with its text.
abbrev pub StandFrom : List ℕ → ℕ → List Token → Type 0
StandFrom text from [] = from ≤ length text
StandFrom text from (t ∷ ts) = (from ≤ t.start) × IsTokenOf text t × StandFrom text t.end ts

-- The last token is the end, and those before it stand in order.
pub record Stand (text : List ℕ) (tokens : List Token) : Type 0 where
  pub before : List Token
  pub are : tokens ≡ before ++ end_token text ∷ []
  pub stand : StandFrom text 0 before

-- The tokens of a text stand in it.
abbrev pub TokensStand : Type 0
TokensStand = (text : List ℕ) (tokens : List Token) → AreTokens text tokens → Stand text tokens

-- No front that is longer than the token in front is a token.
abbrev pub TokensAreLongest : Type 0
TokensAreLongest =
    (rest : List ℕ) (kind : TokenKind) (count : ℕ) → piece_at rest ≡ Some (Lexeme kind count) →
    (other : TokenKind) (more : ℕ) → count < more → more ≤ length rest →
    ¬ Spells other (take more rest)

-- A refusal has the place of a byte, or of the end.
abbrev pub RefusalsArePlaced : Type 0
RefusalsArePlaced = (text : List ℕ) (r : Refusal) → IsRefused text r → IsPlaceOf text r.place

-- A token has the place of a byte, or of the end.
abbrev pub TokensArePlaced : Type 0
TokensArePlaced =
    (text : List ℕ) (tokens : List Token) → AreTokens text tokens →
    All (λ t. IsPlaceOf text t.place) tokens
