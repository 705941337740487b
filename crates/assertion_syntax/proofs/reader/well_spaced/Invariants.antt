use Rattle.std.proofs.Common.{◌≡◌, drop, false}
use Rattle.assertion_syntax.specs.Name.{well_spaced}
use Rattle.assertion_syntax.proofs.reader.well_spaced.Given as goal

abbrev pub invariant-bytes : goal.invariant-bytes
invariant-bytes l = well_spaced false l.base ≡ well_spaced l.behind_byte (drop l.byte-index l.base)
