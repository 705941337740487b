use Rattle.std.proofs.Common.{◌≡◌, ◌+◌, ◌≤◌, drop}
use Rattle.std.specs.Prelude.{count_by}
use Rattle.flat_circuit.specs.Circuit.{net_name}
use Rattle.section_compose.specs.Globals.{stands_in}
use Rattle.section_compose.specs.Rules.{circuits}
use Rattle.section_compose.proofs.globals.stands_in_two.Given as goal

abbrev pub invariant-loop-s : goal.invariant-loop-s
invariant-loop-s l = record {
  few : l.count ≤ l.s;
  counted : count_by (stands_in (net_name l.net)) (circuits l.sections)
      ≡ l.count + count_by (stands_in (net_name l.net)) (circuits (drop l.s l.sections));
}
