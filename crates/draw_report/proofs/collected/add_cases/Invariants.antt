use Rattle.std.proofs.Common.{◌≡◌, ◌*◌, ◌≤◌, take}
use Rattle.timing_analysis.specs.Case.{numbered}
use Rattle.timing_analysis.specs.Settled.{IsBaseIn}
use Rattle.program_call.specs.Reporter.{OfCases}
use Rattle.draw_report.specs.Drawn.{IsCollected}
use Rattle.draw_report.proofs.collected.add_cases.Given as goal

abbrev pub invariant-loop-place : goal.invariant-loop-place
invariant-loop-place g l = record {
  so_far :
      OfCases l.subject.circuit l.job.limit l.fn.base.base.rounds
      (numbered 1 (take l.place l.subject.cases))
      (λ cases. IsCollected l.collected l.subject.circuit cases);
  few : l.collected.faults ≤ 458752 * l.place;
  settled : IsBaseIn l.subject.circuit l.job.limit l.base.base.rounds l.base.store
      l.base.base.numbers l.base.known;
  same : l.base.base.rounds ≡ l.fn.base.base.rounds;
}
