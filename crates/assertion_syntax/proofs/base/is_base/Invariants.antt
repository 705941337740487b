use Rattle.std.proofs.Common.{◌≡◌, drop, false}
use Rattle.std.specs.List.{list_all}
use Rattle.assertion_syntax.specs.Name.{is_base_byte, well_spaced}
use Rattle.assertion_syntax.proofs.base.is_base.Given as goal

abbrev pub invariant-bytes : goal.invariant-bytes
invariant-bytes l = record {
  bytes : list_all is_base_byte l.text ≡ list_all is_base_byte (drop l.byte-index l.text);
  spaced : well_spaced false l.text ≡ well_spaced l.after_byte (drop l.byte-index l.text);
}
