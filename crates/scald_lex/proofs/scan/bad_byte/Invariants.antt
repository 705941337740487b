use Rattle.std.proofs.Common.{◌≡◌, ℕ, ◌<◌, true, get_or}
use Rattle.scald_lex.specs.Bytes.{is_allowed}
use Rattle.scald_lex.proofs.scan.bad_byte.Given as goal

abbrev pub invariant-loop-at : goal.invariant-loop-at
invariant-loop-at l = (k : ℕ) → k < l.at → is_allowed (get_or l.text k 0) ≡ true
