use Rattle.section_compose.specs.Rules.{circuits}
use Rattle.section_compose.proofs.Crossing.{IsCaseTo}
use Rattle.section_compose.proofs.evaluated.crossing_case.Given as goal

abbrev pub invariant-loop-net : goal.invariant-loop-net
invariant-loop-net l = IsCaseTo (circuits l.sections) l.c l.net l.case
