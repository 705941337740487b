-- What is known of a text while it is read.
use Rattle.std.specs.Prelude.{◌≡◌, ℕ, ◌≤◌, ⊤, List, length, Result, Ok, Err, ◌⊎◌}
use Rattle.scald_base.specs.declared.refusal.Refusal.{Refusal}
use Rattle.scald_base.specs.declared.refusal.Stop.{Stop}
use Rattle.scald_base.specs.declared.refusal.Stop.TheVariants.{Refused, NoMemory}
use Rattle.scald_lex.specs.declared.token.Token.{Token}
use Rattle.scald_lex.specs.declared.piece.Piece.{Piece}
use Rattle.scald_lex.specs.declared.scan.Scan.{Scan}
use Rattle.scald_lex.specs.Place.{place_at}
use Rattle.scald_lex.specs.Tokens.{IsCut, tokens_of, IsRefused}

-- The text is pieces up to where it is read, and the list is their tokens.
pub record IsRead (text : List ℕ) (s : Scan) : Type 0 where
  pub pieces : List Piece
  pub cut : IsCut text 0 pieces s.at
  pub list : s.list ≡ tokens_of text 0 pieces
  pub place : s.place ≡ place_at text s.at
  pub within : s.at ≤ length text

-- Reading stops because the text is refused so, or memory ran out.
abbrev pub IsStop : List ℕ → Stop → Type 0
IsStop text (Refused r) = IsRefused text r
IsStop text NoMemory = ⊤

-- The answer is this list, unless memory ran out.
abbrev pub GivesList : List Token → Result (List Token) Stop → Type 0
GivesList list (Ok found) = found ≡ list
GivesList list (Err stop) = stop ≡ NoMemory

-- The answer is this refusal, unless memory ran out.
abbrev pub GivesRefusal : Refusal → Result (List Token) Stop → Type 0
GivesRefusal r (Ok found) = ⊥
GivesRefusal r (Err stop) = (stop ≡ Refused r) ⊎ (stop ≡ NoMemory)
