use Rattle.std.proofs.Common.{◌≡◌}
use Rattle.scald_lex.specs.Place.{place_at}
use Rattle.netlist_import.proofs.offset.place_behind.Given as goal

abbrev pub invariant-loop-byte : goal.invariant-loop-byte
invariant-loop-byte l = l.place ≡ place_at l.front l.byte-index
