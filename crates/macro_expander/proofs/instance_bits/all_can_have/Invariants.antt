use Rattle.std.proofs.Common.{◌≡◌, map, drop}
use Rattle.std.specs.List.{list_all}
use Rattle.macro_expander.specs.Primitives.{can_have}
use Rattle.macro_expander.specs.Numbered.{bits_in}
use Rattle.macro_expander.proofs.instance_bits.all_can_have.Given as goal

abbrev pub invariant-loop-connection : goal.invariant-loop-connection
invariant-loop-connection l = list_all (can_have l.width) (map bits_in (drop l.connection-index l.connections)) ≡ list_all (can_have l.width) (map bits_in l.connections)
