use Rattle.std.proofs.Common.{◌≡◌}
use Rattle.scald_lex.specs.Place.{place_at}
use Rattle.scald_lex.proofs.scan.place_of.Given as goal

abbrev pub invariant-loop-byte : goal.invariant-loop-byte
invariant-loop-byte l = l.place ≡ place_at l.front l.byte-index
