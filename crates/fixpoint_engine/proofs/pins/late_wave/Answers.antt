use Rattle.std.proofs.Common.{◌≡◌, ◌∙◌, ◌<◌, length, sym, arith, false}
use Rattle.std.proofs.lemmas.Result.{IfOk-weaker}
use Rattle.pin_waves.specs.Pin.{pin_wave}
use Rattle.fixpoint_engine.proofs.Normal.{moved_none}
use Rattle.fixpoint_engine.proofs.pins.late_wave.Goals as goal

pub returns-then-has_no_delay : goal.returns-then-has_no_delay
returns-then-has_no_delay g c =
    let two = c.known.ensures.sized.shortest in
    let some : 0 < length c.args.wave.now.cells = omega (arith, two) in
    let test = c.if-has_no_delay.true in
    IfOk-weaker c.copy.result (λ s. s ≡ c.args.wave.now)
    (λ s. s ≡ pin_wave c.args.wave.now c.args.wire false)
    (λ s e. e ∙ sym (moved_none c.args.wave.now c.args.wire some c.known.ensures.normal
    (c.has_no_delay.ensures.least test) (c.has_no_delay.ensures.greatest test)))
    c.copy.ensures
