-- Texts that do not change.
use Rattle.std.specs.Prelude.{ℕ, List, take}
use Rattle.flat_circuit.specs.declared.text.Short as declared
use Rattle.flat_circuit.specs.declared.text.Kept.{Kept}
use Rattle.flat_circuit.specs.declared.text.Kept.TheVariants.{Short, Long}

abbrev pub short_bytes : declared.Short → List ℕ
short_bytes s = take s.len s.bytes

-- the bytes of a text, wherever they lie
abbrev pub bytes_in : Kept → List ℕ
bytes_in (Short s) = short_bytes s
bytes_in (Long bytes) = bytes.value.items
