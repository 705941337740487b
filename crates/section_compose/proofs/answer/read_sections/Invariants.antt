use Rattle.section_compose.specs.Reading.{AreTimed}
use Rattle.section_compose.proofs.Read.{AreDrawnTo}
use Rattle.section_compose.proofs.answer.read_sections.Given as goal

abbrev pub invariant-loop-s : goal.invariant-loop-s
invariant-loop-s l = record {
  drawn : AreDrawnTo l.text l.pieces l.s l.sections;
  timed : AreTimed l.sections;
}
