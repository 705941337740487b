-- The tokens of a text, and where it is refused, by what stands between tokens and by the causes of
-- refusal, without pieces.
use Rattle.std.specs.Prelude.{◌≡◌, ℕ, ◌<◌, ◌≤◌, List, [], ◌∷◌, ◌++◌, drop, length, slice_range, ◌↔◌}
use Rattle.scald_lex.specs.declared.token.TokenKind.{TokenKind}
use Rattle.scald_lex.specs.declared.token.Token.{Token}
use Rattle.scald_lex.specs.Tokens.{IsAllowed, AreTokens, IsBadToken, end_token}
use Rattle.scald_lex.specs.Laws.{Spells, IsTokenOf}
use Rattle.scald_lex.specs.Between.{DashesAt, IsGap}
use Rattle.scald_lex.specs.Causes.{HasCause}

-- A token stands at its place: it spells its kind, no longer text from there on is one of a token,
-- and there is neither a comment nor a cause of refusal there.
pub record IsTaken (text : List ℕ) (t : Token) : Type 0 where
  pub is : IsTokenOf text t
  pub longest : (other : TokenKind) (end : ℕ) → t.end < end → end ≤ length text →
      ¬ Spells other (slice_range text t.start end)
  pub no_comment : ¬ DashesAt text t.start
  pub no_cause : ¬ HasCause (drop t.start text)

-- From this byte to that one stand these tokens, with blanks and comments between them.
abbrev pub Lead : List ℕ → ℕ → List Token → ℕ → Type 0
Lead text from [] to = IsGap text from to
Lead text from (t ∷ ts) to = IsGap text from t.start × IsTaken text t × Lead text t.end ts to

-- The tokens lead from the first byte to the end, which is the last token.
pub record AreApart (text : List ℕ) (tokens : List Token) : Type 0 where
  pub allowed : IsAllowed text
  pub before : List Token
  pub lead : Lead text 0 before (length text)
  pub are : tokens ≡ before ++ end_token text ∷ []

-- Tokens lead to this byte, and here there is a cause of refusal.
pub record IsFirstCause (text : List ℕ) (at : ℕ) : Type 0 where
  pub allowed : IsAllowed text
  pub before : List Token
  pub lead : Lead text 0 before at
  pub cause : HasCause (drop at text)

-- The tokens of a text are those that stand so.
abbrev pub TokensAreApart : Type 0
TokensAreApart = (text : List ℕ) (tokens : List Token) →
    AreTokens text tokens ↔ AreApart text tokens

-- A text is refused as BadToken exactly at its first cause.
abbrev pub BadTokenAtFirstCause : Type 0
BadTokenAtFirstCause = (text : List ℕ) (at : ℕ) → IsBadToken text at ↔ IsFirstCause text at
