use Rattle.section_compose.proofs.Fronts.{IsFront}
use Rattle.section_compose.proofs.answer.settled.Given as goal

abbrev pub invariant-loop-s : goal.invariant-loop-s
invariant-loop-s l = IsFront l.sections l.s l.report.bytes l.report.tick l.report.total
