use Rattle.std.proofs.Common.{◌≡◌, ◌∙◌, ap, sym}
use Rattle.fixpoint_engine.specs.Table.{waves_at}
use Rattle.draw_report.proofs.Seeking.{taken}
use Rattle.draw_report.proofs.sought.add_case.Goals as goal

pub returns-in_ok-sought-clause-found : goal.returns-in_ok-sought-clause-found
returns-in_ok-sought-clause-found g c =
    let same : c.new-waves.result ≡ waves_at c.args.store.now c.args.case.now.settled.numbers =
    c.new-waves.ensures ∙ ap (λ t. waves_at t c.as_slice.result.now) c.waves.ensures
    ∙ ap (waves_at c.args.store.now) c.as_slice.ensures in
    taken c.args.circuit.now c.args.asked c.args.case.now.number c.args.case.now.tick _
    c.new-waves.result (waves_at c.args.store.now c.args.case.now.settled.numbers) _ _
    c.if-case-asked.true (sym c.is_nothing.ensures ∙ c.if-is_nothing.true) same
    c.number_of.ensures c.in_ok-sought.ensures
