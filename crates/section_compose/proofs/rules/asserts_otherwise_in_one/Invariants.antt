use Rattle.std.proofs.Common.{◌≡◌, drop}
use Rattle.std.specs.List.{list_any}
use Rattle.section_compose.specs.Rules.{asserts_otherwise, circuits}
use Rattle.section_compose.proofs.rules.asserts_otherwise_in_one.Given as goal

abbrev pub invariant-loop-s : goal.invariant-loop-s
invariant-loop-s l =
    list_any (asserts_otherwise l.net) (circuits l.sections) ≡ list_any (asserts_otherwise l.net) (circuits (drop l.s l.sections))
