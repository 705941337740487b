-- What lines are made of.
use Rattle.std.specs.Prelude.{ℕ, List, decimal}
use Rattle.design_gen.specs.declared.piece.Piece.{Piece}
use Rattle.design_gen.specs.declared.piece.Piece.TheVariants.{Text, Number}

abbrev pub piece_text : Piece → List ℕ
piece_text (Text bytes) = bytes.now
piece_text (Number n) = decimal n
