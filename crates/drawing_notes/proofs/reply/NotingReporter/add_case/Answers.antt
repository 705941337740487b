use Rattle.std.proofs.Common.{[], ◌∷◌, ◌++◌, refl, sym}
use Rattle.std.proofs.lemmas.Result.{on_ok_weaker}
use Rattle.timing_analysis.specs.Case.{Case}
use Rattle.timing_analysis.specs.Settled.{settled_case}
use Rattle.drawing_notes.proofs.reply.NotingReporter.add_case.Goals as goal

pub returns-clause-holds : goal.returns-clause-holds
returns-clause-holds g c =
    let case = c.args.case.now in
    on_ok_weaker c.add_case.result
    (λ more asked kept limit base listed cases is holds. (
      holds.0,
      more cases (settled_case listed case.settled.rounds c.args.waves.now)
          (sym is.numbered) refl holds.1,
    ))
    c.add_case.ensures

pub add_case-requires-clause-ready : goal.add_case-requires-clause-ready
add_case-requires-clause-ready g c = c.requires.ready

pub returns-clause-ready : goal.returns-clause-ready
returns-clause-ready g c =
    let one : Case = settled_case (record { number = c.args.case.now.number; values = [] }) 0 c.args.waves.now in
    on_ok_weaker c.add_case.result
    (λ more. (c.requires.ready.0 ++ one ∷ [], more c.requires.ready.0 one refl refl c.requires.ready.1))
    c.add_case.ensures
