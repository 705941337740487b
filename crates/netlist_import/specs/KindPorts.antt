-- The ports of a kind as they are looked up: each name once, with what stands beside it.
use Rattle.std.specs.Prelude.{ℕ, List}
use Rattle.netlist_import.specs.declared.kind_ports.PortForm.{PortForm}
use Rattle.netlist_import.specs.declared.shapes.Formal.{Formal}

abbrev pub formal_in : List ℕ × PortForm → Formal
formal_in e = record { name = e.0; direction = e.1.direction; width = e.1.width }
