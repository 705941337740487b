use Rattle.std.proofs.Common.{◌≡◌, take}
use Rattle.scald_lex.proofs.packed.unpacked.Given as goal

abbrev pub invariant-tokens : goal.invariant-tokens
invariant-tokens l = l.list ≡ take l.token-index l.packed
