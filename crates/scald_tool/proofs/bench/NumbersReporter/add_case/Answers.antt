use Rattle.std.proofs.Common.{◌∙◌, ◌+◌, length, sym}
use Rattle.std.proofs.lemmas.List.Sums.{sum_by_push}
use Rattle.timing_analysis.specs.Case.{Case, fault_count, faults}
use Rattle.timing_analysis.specs.Settled.{settled_case}
use Rattle.scald_tool.proofs.bench.NumbersReporter.add_case.Goals as goal

pub returns-clause-holds : goal.returns-clause-holds
returns-clause-holds g c sections kept limit base listed cases is has = (
  has.0,
  has.1,
  (λ k. has.2 k + c.len.ensures k)
      ∙ (λ k. fault_count c.args._circuit.now cases + length (is.found k))
      ∙ sym (sum_by_push (λ (case : Case). length (faults c.args._circuit.now case)) cases
      (settled_case listed c.args.case.now.settled.rounds c.args._waves.now)),
)
