use Rattle.std.proofs.Common.{◌≡◌, drop}
use Rattle.section_compose.specs.Rules.{broken_nets, circuits, crossing_rule}
use Rattle.section_compose.proofs.rules.broken_crossing_in.Given as goal

abbrev pub invariant-loop-net : goal.invariant-loop-net
invariant-loop-net l =
    broken_nets (crossing_rule (circuits l.sections) l.circuit) l.circuit l.section 0 l.circuit.order
    ≡ broken_nets (crossing_rule (circuits l.sections) l.circuit) l.circuit l.section l.net (drop l.net l.circuit.order)
