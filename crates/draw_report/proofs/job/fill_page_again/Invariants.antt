use Rattle.timing_analysis.specs.Settled.{IsBaseIn}
use Rattle.draw_report.specs.Drawn.{AreDrawn}
use Rattle.draw_report.proofs.job.fill_page_again.Given as goal

abbrev pub invariant-loop-place : goal.invariant-loop-place
invariant-loop-place g l = record {
  settled : IsBaseIn l.job.subject.now.circuit l.job.limit l.base.base.rounds
      l.base.store l.base.base.numbers l.base.known;
  drawn : AreDrawn l.pictures;
}
