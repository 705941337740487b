-- The tokens of a text, or why it has none. A text is cut into pieces from its first byte on, each
-- the one that stands in front.
use Rattle.std.specs.Prelude.{◌≡◌, ℕ, ◌+◌, ◌<◌, true, false, List, [], ◌∷◌, ◌++◌, length, drop, slice_index, Some, None}
use Rattle.scald_base.specs.declared.refusal.Refusal.{Refusal}
use Rattle.scald_base.specs.declared.refusal.RefusalKind.TheVariants.{BadByte, BadToken}
use Rattle.scald_lex.specs.declared.token.TokenKind.TheVariants.{End}
use Rattle.scald_lex.specs.declared.token.Token.{Token}
use Rattle.scald_lex.specs.declared.piece.Piece.{Piece}
use Rattle.scald_lex.specs.declared.piece.Piece.TheVariants.{Space, LineEnd, Comment, Lexeme}
use Rattle.scald_lex.specs.Bytes.{is_allowed}
use Rattle.scald_lex.specs.Place.{place_at}
use Rattle.scald_lex.specs.Piece.{piece_at}

-- how many bytes it takes
abbrev pub size : Piece → ℕ
size Space = 1
size LineEnd = 1
size (Comment count) = count
size (Lexeme kind count) = count

-- From this byte on the text is these pieces, up to that byte.
abbrev pub IsCut : List ℕ → ℕ → List Piece → ℕ → Type 0
IsCut text from [] to = from ≡ to
IsCut text from (p ∷ ps) to =
    (piece_at (drop from text) ≡ Some p) × IsCut text (from + size p) ps to

-- Spaces and comments are no token.
abbrev pub token_of : List ℕ → ℕ → Piece → List Token
token_of text at Space = []
token_of text at LineEnd = []
token_of text at (Comment count) = []
token_of text at (Lexeme kind count) =
    record { kind = kind; place = place_at text at; start = at; end = at + count } ∷ []

abbrev pub tokens_of : List ℕ → ℕ → List Piece → List Token
tokens_of text at [] = []
tokens_of text at (p ∷ ps) = token_of text at p ++ tokens_of text (at + size p) ps

-- after the last byte
abbrev pub end_token : List ℕ → Token
end_token text =
    record {
      kind = End;
      place = place_at text (length text);
      start = length text;
      end = length text;
    }

-- Every byte is allowed.
abbrev pub IsAllowed : List ℕ → Type 0
IsAllowed text = (k : ℕ) → k < length text → is_allowed (slice_index text k) ≡ true

-- The text is these tokens: those of its pieces, and the end.
pub record AreTokens (text : List ℕ) (tokens : List Token) : Type 0 where
  pub allowed : IsAllowed text
  pub pieces : List Piece
  pub whole : IsCut text 0 pieces (length text)
  pub are : tokens ≡ tokens_of text 0 pieces ++ end_token text ∷ []

-- This byte is the first that is not allowed.
pub record IsBadByte (text : List ℕ) (at : ℕ) : Type 0 where
  pub within : at < length text
  pub before : (k : ℕ) → k < at → is_allowed (slice_index text k) ≡ true
  pub bad : is_allowed (slice_index text at) ≡ false

-- Up to this byte the text is pieces, and here none begins.
pub record IsBadToken (text : List ℕ) (at : ℕ) : Type 0 where
  pub allowed : IsAllowed text
  pub within : at < length text
  pub pieces : List Piece
  pub before : IsCut text 0 pieces at
  pub bad : piece_at (drop at text) ≡ None

-- The text is refused so.
pub data IsRefused (text : List ℕ) (r : Refusal) : Type 0 where
  bad_byte : (at : ℕ) → IsBadByte text at →
      r ≡ record { kind = BadByte; place = place_at text at } → IsRefused text r
  bad_token : (at : ℕ) → IsBadToken text at →
      r ≡ record { kind = BadToken; place = place_at text at } → IsRefused text r
