use Rattle.std.proofs.Common.{◌≡◌, ◌++◌, drop}
use Rattle.std.specs.List.{flat_map}
use Rattle.macro_expander.specs.Numbered.{all_refs}
use Rattle.macro_expander.proofs.instance_bits.all_pins.Given as goal

abbrev pub invariant-loop-connection : goal.invariant-loop-connection
invariant-loop-connection l = l.pins ++ flat_map all_refs (drop l.connection-index l.ins) ≡ flat_map all_refs l.ins
