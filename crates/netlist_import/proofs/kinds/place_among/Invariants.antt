use Rattle.std.proofs.Common.{◌≡◌, ◌+◌, drop}
use Rattle.netlist_import.specs.Kinds.{joins}
use Rattle.netlist_import.proofs.kinds.place_among.Given as goal

abbrev pub invariant-loop-place : goal.invariant-loop-place
invariant-loop-place l = joins l.kinds l.cell ≡ l.place + joins (drop l.place l.kinds) l.cell
