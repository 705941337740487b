use Rattle.std.proofs.Common.{◌≡◌, ◌<◌, ◌∙◌, sym, ap, subst, arith, length}
use Rattle.scald_base.specs.Time.{period}
use Rattle.step_values.specs.Cell.{values}
use Rattle.step_values.specs.Lawful.{values_lawful}
use Rattle.wave_core.specs.Slots.{slots}
use Rattle.wave_core.proofs.Slots.{length_slots}
use Rattle.skew_algebra.specs.Permits.{Permits}
use Rattle.skew_algebra.specs.Wave.{IsNormal, skewed}
use Rattle.skew_algebra.proofs.Normal.{uniform_normal}
use Rattle.pin_waves.specs.Interface.{constant_wave}
use Rattle.pin_waves.proofs.CodeSlots.{Permits_constant}
use Rattle.pin_waves.proofs.interface.constant_wave.Goals as goal

pub new-requires : goal.new-requires
new-requires g c =
    subst (λ l. IsNormal values (skewed l 0)) (sym c.in_ok-wave.ensures)
    (uniform_normal values values_lawful c.period.result c.level.result (omega (arith, c.period.ensures.shortest)))

pub returns-clause-permits : goal.returns-clause-permits
returns-clause-permits g c n v =
    let same : skewed (g.W.CyclicWave.cells c.in_ok-wave.wave) 0 ≡ constant_wave c.args.h.now c.args.one =
    ap (λ l. skewed l 0) (c.in_ok-wave.ensures ∙ (λ i. slots (c.period.ensures.is i) (λ p. c.level.ensures i))) in
    let some : 0 < period c.args.h.now = omega (arith, c.period.ensures.shortest, c.period.ensures.is) in
    subst (λ w. Permits values w n (λ t. c.args.one) v) (sym (c.new.ensures ∙ same)) (Permits_constant c.args.h.now c.args.one n v some)

pub returns-clause-sized : goal.returns-clause-sized
returns-clause-sized g c =
    ap (λ w. length w.cells) c.new.ensures
    ∙ ap length c.in_ok-wave.ensures ∙ length_slots c.period.result (λ p. c.level.result) ∙ c.period.ensures.is
