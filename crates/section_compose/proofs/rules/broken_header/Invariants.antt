use Rattle.std.proofs.Common.{◌≡◌, ◌+◌, drop}
use Rattle.section_compose.specs.Rules.{broken_headers}
use Rattle.section_compose.proofs.rules.broken_header.Given as goal

abbrev pub invariant-loop-s : goal.invariant-loop-s
invariant-loop-s l = broken_headers l.first 1 l.sections ≡ broken_headers l.first (l.s + 1) (drop l.s l.sections)
