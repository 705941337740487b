use Rattle.std.proofs.Common.{◌≡◌, length}
use Rattle.netlist_import.specs.Netlist.{is_binary_one}
use Rattle.netlist_import.proofs.module.is_binary_one.Given as goal

abbrev pub invariant-digits : goal.invariant-digits
invariant-digits l = is_binary_one l.digits ≡ is_binary_one l.rest

abbrev pub decreases-digits : goal.decreases-digits
decreases-digits l = length l.rest
