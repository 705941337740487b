-- Places of a text. Lines and columns count from 1, and a column is a byte.
use Rattle.std.specs.Prelude.{◌≡◌, ℕ, ◌+◌, ◌≤◌, ◌==◌, if◌then◌else◌, List, [], ◌∷◌, length, take, ⊤}
use Rattle.scald_base.specs.declared.refusal.Place.{Place}
use Rattle.scald_base.specs.declared.refusal.Stop.{Stop}
use Rattle.scald_base.specs.declared.refusal.Stop.TheVariants.{Refused, NoMemory}
use Rattle.scald_lex.specs.Bytes.{line_end}

abbrev pub first_place : Place
first_place = record { line = 1; col = 1 }

-- the place after a byte: the next line's first if it ends the line
abbrev pub next_place : Place → ℕ → Place
next_place p b =
    if b == line_end then record { line = p.line + 1; col = 1 }
    else record { line = p.line; col = p.col + 1 }

-- the place after these bytes
abbrev pub place_behind : Place → List ℕ → Place
place_behind p [] = p
place_behind p (b ∷ bs) = place_behind (next_place p b) bs

-- the place of the byte with this number, from 0
abbrev pub place_at : List ℕ → ℕ → Place
place_at text at = place_behind first_place (take at text)

-- It is the place of a byte of the text, or of its end.
pub record IsPlaceOf (text : List ℕ) (place : Place) : Type 0 where
  pub at : ℕ
  pub within : at ≤ length text
  pub is : place ≡ place_at text at

-- If reading stops with a refusal, it has such a place.
abbrev pub IsPlacedStop : List ℕ → Stop → Type 0
IsPlacedStop text (Refused r) = IsPlaceOf text r.place
IsPlacedStop text NoMemory = ⊤
