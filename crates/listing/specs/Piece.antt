-- What lines are made of.
use Rattle.std.specs.Prelude.{ℕ, List, [], ◌∷◌, decimal}
use Rattle.listing.specs.declared.piece.Piece.{Piece}
use Rattle.listing.specs.declared.piece.Piece.TheVariants.{Text, Byte, Number, Bit}
use Rattle.listing.specs.Text.{bit_text}

abbrev pub piece_text : Piece → List ℕ
piece_text (Text bytes) = bytes.now
piece_text (Byte byte) = byte ∷ []
piece_text (Number n) = decimal n
piece_text (Bit name bit) = bit_text (record { text = name.now; bit = bit })
