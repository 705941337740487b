use Rattle.std.proofs.Common.{◌∙◌, ◌+◌, ◌-◌, ◌%◌, ◌<◌, ℕ, ap, arith}
use Rattle.scald_base.specs.Time.{period}
use Rattle.scald_base.proofs.Back.{back_sub}
use Rattle.narrowing.specs.Part.{skew_in}
use Rattle.narrowing.proofs.moved.lag.Goals as goal

pub returns : goal.returns
returns c =
    let h = c.args.h.now in
    let by = c.args.by in
    let own : ℕ × ℕ = skew_in h c.args.clock.now in
    let some : 0 < period h = omega (arith, c.period-period.ensures.shortest, c.period-period.ensures.is) in
    c.tick_after.ensures
    ∙ ap (λ (p : ℕ). (by + (p - c.skew_in-skew.result.0 % p)) % period h) c.period-period.ensures.is
    ∙ ap (λ (skew : ℕ × ℕ). (by + (period h - skew.0 % period h)) % period h) c.skew_in-skew.ensures
    ∙ back_sub (period h) by own.0 some
