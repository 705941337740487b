use Rattle.std.proofs.Common.{◌∙◌, ap}
use Rattle.fixpoint_engine.specs.Table.{waves_at}
use Rattle.draw_report.proofs.collected.waves_in.Goals as goal

pub returns : goal.returns
returns g c =
    c.new.ensures ∙ ap (λ t. waves_at t c.as_slice.result.now) c.waves.ensures
    ∙ ap (waves_at c.args.store.now) c.as_slice.ensures
