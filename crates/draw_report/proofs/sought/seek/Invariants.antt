use Rattle.std.proofs.Common.{◌≡◌, ◌*◌, ◌≤◌, take}
use Rattle.timing_analysis.specs.Case.{numbered}
use Rattle.timing_analysis.specs.Settled.{IsBaseIn}
use Rattle.program_call.specs.Reporter.{OfCases}
use Rattle.draw_report.specs.Case.{IsSought}
use Rattle.draw_report.proofs.sought.seek.Given as goal

abbrev pub invariant-loop-place : goal.invariant-loop-place
invariant-loop-place g l = record {
  so_far :
      OfCases l.subject.circuit l.limit l.initial.base.base.rounds
      (numbered 1 (take l.place l.subject.cases))
      (λ cases. IsSought l.sought l.fn.asked l.subject.circuit l.initial.base.base.rounds cases);
  few : l.sought.faults ≤ 458752 * l.place;
  settled : IsBaseIn l.subject.circuit l.limit l.base.base.rounds l.base.store
      l.base.base.numbers l.base.known;
  same : l.base.base.rounds ≡ l.initial.base.base.rounds;
}
