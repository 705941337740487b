use Rattle.std.proofs.Common.{◌≡◌, map, drop}
use Rattle.std.specs.Prelude.{max}
use Rattle.macro_expander.specs.Primitives.{greatest}
use Rattle.macro_expander.specs.Numbered.{bits_in}
use Rattle.macro_expander.proofs.instance_bits.greatest_width.Given as goal

abbrev pub invariant-loop-connection : goal.invariant-loop-connection
invariant-loop-connection l = max l.greatest (greatest (map bits_in (drop l.connection-index l.connections))) ≡ greatest (map bits_in l.connections)
