use Rattle.std.proofs.Common.{◌≡◌, ◌+◌, ◌-◌, ◌%◌, ℕ, min, ap, arith, subst}
use Rattle.wave_core.specs.Slots.{SameUntil}
use Rattle.gate_eval.proofs.Folding.{same_fold}
use Rattle.gate_eval.proofs.hold.same_fold_until.Goals as goal

pub returns-clause-same : goal.returns-clause-same
returns-clause-same g c = λ p after before.
    let wave = c.args.wave.now in
    let first : ℕ = (c.args.slot + (c.period-period.result - c.skew.result)) % c.period-period.result in
    let least : c.min.result ≡ min c.same_until-coming.result (c.args.slot + (c.same_until-leaving.result - first)) = grind arith in
    let coming = subst (λ cells. SameUntil cells c.args.slot c.same_until-coming.result) c.wave-cells.ensures c.same_until-coming.ensures in
    let leaving = subst (λ cells. SameUntil cells first c.same_until-leaving.result) c.wave-cells.ensures c.same_until-leaving.ensures in
    same_fold wave c.period-period.result c.args.slot first c.same_until-coming.result c.same_until-leaving.result p c.period-period.ensures c.requires c.known.ensures.normal.short
    (ap (λ s. (c.args.slot + (c.period-period.result - s)) % c.period-period.result) c.skew.ensures) coming leaving after (omega (arith, before, least)) (omega (arith, before, least))
