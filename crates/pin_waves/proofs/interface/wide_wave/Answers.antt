use Rattle.std.proofs.Common.{◌≡◌, ◌∙◌, ap, length}
use Rattle.std.proofs.lemmas.Result.{IfOk-weaker}
use Rattle.scald_base.specs.Time.{period}
use Rattle.step_values.specs.Cell.{values}
use Rattle.wave_core.proofs.Slots.{length_slots}
use Rattle.skew_algebra.specs.Wave.{folded}
use Rattle.pin_waves.proofs.interface.wide_wave.Goals as goal

pub returns-clause-sized : goal.returns-clause-sized
returns-clause-sized g c =
    let wave = c.in_ok-wave.wave in
    IfOk-weaker c.folded.result
    (λ w. g.W.CyclicWave.cells w ≡ folded values wave)
    (λ w. length (g.W.CyclicWave.cells w) ≡ period c.args.h.now)
    (λ w e. ap length e ∙ length_slots _ _ ∙ c.in_ok-wave.ensures.sized)
    c.folded.ensures.wave
