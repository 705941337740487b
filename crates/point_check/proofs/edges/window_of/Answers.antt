use Rattle.std.proofs.Common.{Option, length, ap, ◌∙◌}
use Rattle.element_kinds.specs.declared.form.Check.{Check}
use Rattle.fixpoint_engine.specs.Pins.{read}
use Rattle.point_check.specs.Point.{window_if}
use Rattle.point_check.proofs.edges.window_of.Goals as goal

pub returns-in-None-clause-window : goal.returns-in-None-clause-window
returns-in-None-clause-window g c =
    let clock = g.W.CyclicWave.cells c.args.clock.now in
    ap (λ (check : Option Check).
    window_if check (length clock) (read clock) c.args.limits c.args.edge) c.in-None.ensures

pub returns-in-Some-clause-window : goal.returns-in-Some-clause-window
returns-in-Some-clause-window g c =
    let clock = g.W.CyclicWave.cells c.args.clock.now in
    c.window_by.ensures.window
    ∙ ap (λ (check : Option Check).
    window_if check (length clock) (read clock) c.args.limits c.args.edge) c.in-Some.ensures
