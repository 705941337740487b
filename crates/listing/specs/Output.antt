-- The bytes of an answer, of which those that come again may be kept once.
use Rattle.std.specs.Prelude.{ℕ, List, slice_range}
use Rattle.std.specs.List.{flat_map}
use Rattle.listing.specs.declared.output.Part.{Part}
use Rattle.listing.specs.declared.output.Form.{Form}
use Rattle.listing.specs.declared.output.Form.TheVariants.{Whole, Parts}

abbrev pub part_of : List ℕ → Part → List ℕ
part_of kept part = slice_range kept part.from part.to

-- parts of some bytes, one after another
abbrev pub text_of : List ℕ → List Part → List ℕ
text_of kept parts = flat_map (part_of kept) parts

abbrev pub bytes_in : Form → List ℕ
bytes_in (Whole bytes) = bytes
bytes_in (Parts kept parts) = text_of kept parts
