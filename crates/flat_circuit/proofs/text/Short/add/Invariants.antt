use Rattle.std.proofs.Common.{◌≡◌, ◌+◌, ◌++◌, take}
use Rattle.flat_circuit.specs.Text.{short_bytes}
use Rattle.flat_circuit.proofs.text.Short.add.Given as goal

abbrev pub invariant-loop-byte : goal.invariant-loop-byte
invariant-loop-byte l =
    (short_bytes l.self ≡ short_bytes l.fn.self ++ take l.byte-index l.bytes) × (l.self.len ≡ l.fn.self.len + l.byte-index)
