use Rattle.std.proofs.Common.{◌≡◌, take}
use Rattle.timing_analysis.specs.Case.{numbered}
use Rattle.timing_analysis.specs.Settled.{IsBaseIn}
use Rattle.program_call.specs.Reporter.{OfCases}
use Rattle.fault_decider.specs.Reporting.{Holds}
use Rattle.fault_decider.proofs.report.report.Given as goal

abbrev pub invariant-loop-place : goal.invariant-loop-place
invariant-loop-place l = record {
  so_far :
      OfCases l.subject.circuit l.limit l.initial.settled.base.rounds
      (numbered 1 (take l.place l.subject.cases))
      (Holds l.question.request.trace l.question.version l.subject.circuit
      l.initial.settled.base.rounds l.answer);
  settled : IsBaseIn l.subject.circuit l.limit l.settled.base.rounds l.settled.store
      l.settled.base.numbers l.settled.known;
  same : l.settled.base.rounds ≡ l.initial.settled.base.rounds;
}
