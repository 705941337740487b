use Rattle.std.proofs.Common.{◌≡◌, drop}
use Rattle.section_compose.specs.Rules.{broken_nets, circuits, global_rule}
use Rattle.section_compose.proofs.rules.broken_global_in.Given as goal

abbrev pub invariant-loop-net : goal.invariant-loop-net
invariant-loop-net l =
    broken_nets (global_rule (circuits l.before)) l.circuit l.section 0 l.circuit.order
    ≡ broken_nets (global_rule (circuits l.before)) l.circuit l.section l.net (drop l.net l.circuit.order)
