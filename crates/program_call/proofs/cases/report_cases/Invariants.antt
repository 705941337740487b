use Rattle.std.proofs.Common.{◌≡◌, take}
use Rattle.timing_analysis.specs.Case.{numbered}
use Rattle.timing_analysis.specs.Settled.{IsBaseIn}
use Rattle.program_call.specs.Reporter.{OfCases}
use Rattle.program_call.proofs.cases.report_cases.Given as goal

abbrev pub invariant-loop-place : goal.invariant-loop-place
invariant-loop-place g l = record {
  so_far :
      OfCases l.subject.circuit l.limit l.initial.settled_base.base.rounds
      (numbered 1 (take l.place l.subject.cases))
      (λ cases. g.R.Reporter.holds l.reporter l.fn.asked l.fn.kept l.subject.circuit
      l.initial.settled_base.base.rounds cases);
  ready : g.R.Reporter.ready l.reporter l.subject.circuit l.place;
  settled : IsBaseIn l.subject.circuit l.limit l.settled_base.base.rounds l.settled_base.store
      l.settled_base.base.numbers l.settled_base.known;
  same : l.settled_base.base.rounds ≡ l.initial.settled_base.base.rounds;
}
