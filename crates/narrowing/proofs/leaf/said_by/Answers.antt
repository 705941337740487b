use Rattle.std.proofs.Common.{◌≡◌, ◌∙◌, ap, sym, subst}
use Rattle.fixpoint_engine.specs.Table.{waves_at}
use Rattle.fixpoint_engine.specs.Waves.{FitWaves}
use Rattle.narrowing.proofs.leaf.said_by.Goals as goal

pub doubt-requires : goal.doubt-requires
doubt-requires c =
    let same : c.new-waves.result ≡ waves_at c.args.store.now c.args.case.now.settled.numbers =
    c.new-waves.ensures ∙ ap (λ t. waves_at t c.as_slice-numbers.result.now) c.waves.ensures
    ∙ ap (waves_at c.args.store.now) c.as_slice-numbers.ensures in
    subst (FitWaves c.args.c.now) (sym same) c.requires.fit
