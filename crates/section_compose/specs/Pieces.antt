-- Where sections lie in their text.
use Rattle.std.specs.Prelude.{ℕ, ◌-◌, ◌≤◌, List, take, drop}
use Rattle.section_compose.specs.declared.cut.Piece.{Piece}

-- the bytes of a text from one place up to and without another
abbrev pub bytes_from : List ℕ → ℕ → ℕ → List ℕ
bytes_from text from to = take (to - from) (drop from text)

abbrev pub piece_of : List ℕ → Piece → List ℕ
piece_of text piece = bytes_from text piece.from piece.to

-- it lies in a text of so many bytes
pub record Lies (long : ℕ) (piece : Piece) : Type 0 where
  pub ordered : piece.from ≤ piece.to
  pub within : piece.to ≤ long
