use Rattle.std.proofs.Common.{◌≡◌, drop}
use Rattle.std.specs.List.{list_any}
use Rattle.flat_circuit.specs.Circuit.{net_name}
use Rattle.section_compose.specs.Globals.{is_driven_in}
use Rattle.section_compose.specs.Rules.{circuits}
use Rattle.section_compose.proofs.globals.is_driven_in_one.Given as goal

abbrev pub invariant-loop-s : goal.invariant-loop-s
invariant-loop-s l =
    list_any (is_driven_in (net_name l.net)) (circuits l.sections) ≡ list_any (is_driven_in (net_name l.net)) (circuits (drop l.s l.sections))
