use Rattle.std.proofs.Common.{◌≡◌, map, take}
use Rattle.netlist_import.specs.Words.{word_byte}
use Rattle.netlist_import.proofs.words.worded.Given as goal

abbrev pub invariant-loop-byte : goal.invariant-loop-byte
invariant-loop-byte l = l.out ≡ map word_byte (take l.byte-index l.bytes)
