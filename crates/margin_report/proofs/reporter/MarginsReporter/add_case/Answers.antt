use Rattle.std.proofs.Common.{sym, refl}
use Rattle.std.proofs.lemmas.Result.{on_ok_weaker}
use Rattle.timing_analysis.specs.Settled.{settled_case}
use Rattle.margin_report.proofs.reporter.MarginsReporter.add_case.Goals as goal

pub returns-clause-holds : goal.returns-clause-holds
returns-clause-holds g c =
    let case = c.args.case.now in
    on_ok_weaker c.lower.result
    (λ are asked version limit base listed cases is holds. (
      holds.0,
      are cases (settled_case listed case.settled.rounds c.args.waves.now) (sym is.numbered)
          refl holds.1,
    ))
    c.lower.ensures.are
