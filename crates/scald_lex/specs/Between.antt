-- What may stand between the tokens of a text: spaces, ends of lines and comments. This is said of
-- the bytes alone, without pieces.
use Rattle.std.specs.Prelude.{◌≡◌, ◌≢◌, ℕ, ◌+◌, ◌<◌, ◌≤◌, ◌==◌, Bool, true, List, [], ◌∷◌, codes, length, slice_index, slice_range, ◌⊎◌}
use Rattle.std.specs.List.{list_any}

-- a tabulator, the end of a line, a carriage return or a space
abbrev pub is_blank : ℕ → Bool
is_blank b = list_any (λ s. b == s) (9 ∷ 10 ∷ 13 ∷ 32 ∷ [])

-- Two dashes stand here.
abbrev pub DashesAt : List ℕ → ℕ → Type 0
DashesAt text at = slice_range text at (at + 2) ≡ codes "--"

-- From this byte to that one stands a comment: two dashes, up to the end of the line or of the
-- text.
pub record IsComment (text : List ℕ) (at end : ℕ) : Type 0 where
  pub dashes : DashesAt text at
  pub longer : at + 2 ≤ end
  pub within : end ≤ length text
  pub on_line : (k : ℕ) → at ≤ k → k < end → slice_index text k ≢ 10
  pub ended : (end ≡ length text) ⊎ (slice_index text end ≡ 10)

-- From this byte to that one stand blanks and comments, and nothing else.
pub data IsGap (text : List ℕ) : ℕ → ℕ → Type 0 where
  nothing : (at : ℕ) → IsGap text at at
  blank : (at to : ℕ) → at < length text → is_blank (slice_index text at) ≡ true →
      IsGap text (at + 1) to → IsGap text at to
  comment : (at end to : ℕ) → IsComment text at end → IsGap text end to → IsGap text at to
