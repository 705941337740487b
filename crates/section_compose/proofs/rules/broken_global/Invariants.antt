use Rattle.std.proofs.Common.{◌≡◌, []}
use Rattle.section_compose.specs.Rules.{broken_globals, circuits}
use Rattle.section_compose.proofs.Walks.{globals_from}
use Rattle.section_compose.proofs.rules.broken_global.Given as goal

abbrev pub invariant-loop-s : goal.invariant-loop-s
invariant-loop-s l = broken_globals [] 1 (circuits l.sections) ≡ globals_from l.sections l.s
