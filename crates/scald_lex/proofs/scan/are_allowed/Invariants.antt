use Rattle.std.proofs.Common.{◌≡◌, ℕ, ◌<◌, true}
use Rattle.std.specs.Prelude.{slice_index}
use Rattle.scald_lex.specs.Bytes.{is_allowed}
use Rattle.scald_lex.proofs.scan.are_allowed.Given as goal

abbrev pub invariant-bytes : goal.invariant-bytes
invariant-bytes l = l.all ≡ true → (k : ℕ) → k < l.byte-index → is_allowed (slice_index l.text k) ≡ true
