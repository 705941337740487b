-- Text that is put at the end of a paper.
use Rattle.std.specs.Prelude.{◌≡◌, ℕ, false, List, ◌++◌, decimal}
use Rattle.draw_report.specs.declared.paper.Paper.{Paper}
use Rattle.draw_report.specs.declared.paper.Piece.{Piece}
use Rattle.draw_report.specs.declared.paper.Piece.TheVariants.{Byte, Markup, Number, Text}
use Rattle.draw_report.specs.Element.{escape, escaped}

-- Unless memory ran out, what was there stays and the text follows it.
abbrev pub Adds : Paper → Paper → List ℕ → Type 0
Adds old new text =
    new.failed ≡ false → (old.failed ≡ false) × (new.bytes ≡ old.bytes ++ text)

abbrev pub piece_text : Piece → List ℕ
piece_text (Markup bytes) = bytes.now
piece_text (Text bytes) = escaped bytes.now
piece_text (Byte b) = escape b
piece_text (Number n) = decimal n
