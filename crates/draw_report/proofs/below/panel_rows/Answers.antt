use Rattle.std.proofs.Common.{ap, subst, sym, ◌∙◌}
use Rattle.std.specs.Option.{option_copied}
use Rattle.std.proofs.lemmas.Result.{IfOk-weaker}
use Rattle.fixpoint_engine.specs.Waves.{waves_of}
use Rattle.draw_report.specs.Below.{HaveNets, rows_below}
use Rattle.draw_report.specs.Row.{AreInside}
use Rattle.draw_report.proofs.Cutting.{rows_below_inside, rows_have_nets}
use Rattle.draw_report.proofs.below.panel_rows.Goals as goal

pub rows_below-requires : goal.rows_below-requires
rows_below-requires g c =
    subst HaveNets (sym c.in_ok-rows.ensures)
    (rows_have_nets c.args.c.now (waves_of c.args.waves.now))

pub returns-clause-is : goal.returns-clause-is
returns-clause-is g c =
    IfOk-weaker c.rows_below.result _ _
    (λ rows is. is ∙ ap (rows_below c.args.c.now (option_copied c.args.under)) c.in_ok-rows.ensures)
    c.rows_below.ensures

pub returns-clause-inside : goal.returns-clause-inside
returns-clause-inside g c =
    let ws = waves_of c.args.waves.now in
    let under = option_copied c.args.under in
    IfOk-weaker c.rows_below.result _ _
    (λ rows is. subst (AreInside c.args.c.now)
    (sym (is ∙ ap (rows_below c.args.c.now under) c.in_ok-rows.ensures))
    (rows_below_inside c.args.c.now ws under))
    c.rows_below.ensures
