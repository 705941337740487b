use Rattle.std.proofs.Common.{◌≡◌}
use Rattle.section_compose.specs.Rules.{broken_crossings, circuits}
use Rattle.section_compose.proofs.Walks.{crossings_from}
use Rattle.section_compose.proofs.rules.broken_crossing.Given as goal

abbrev pub invariant-loop-s : goal.invariant-loop-s
invariant-loop-s l = broken_crossings (circuits l.sections) 1 (circuits l.sections) ≡ crossings_from l.sections l.s
