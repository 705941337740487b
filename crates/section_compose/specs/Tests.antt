-- Tests of nets that may not be there.
use Rattle.std.specs.Prelude.{Bool, false, Option, Some, None}
use Rattle.flat_circuit.specs.declared.net.Net.{Net}

-- there is one, and it passes
abbrev pub passes : (Net → Bool) → Option Net → Bool
passes test None = false
passes test (Some net) = test net
