use Rattle.std.proofs.Common.{◌≡◌, ◌<◌, ◌∙◌, ap, length, arith}
use Rattle.std.proofs.lemmas.Result.{IfOk-weaker}
use Rattle.scald_base.specs.Time.{period}
use Rattle.pin_waves.specs.Interface.{interface_wave, PermitsAsserted}
use Rattle.pin_waves.proofs.Asserted.{length_interface, permits_asserted}
use Rattle.pin_waves.proofs.interface.interface_wave.Goals as goal

pub returns-clause-permits : goal.returns-clause-permits
returns-clause-permits g c =
    let some : 0 < period c.args.h.now = omega (arith, c.known.ensures.shortest) in
    IfOk-weaker c.asserted_wave.result
    (λ s. s ≡ interface_wave c.args.h.now c.args.spec.now)
    (λ s. PermitsAsserted c.args.h.now c.args.spec.now s)
    (λ s e. permits_asserted c.args.h.now c.args.spec.now s some e)
    c.asserted_wave.ensures

pub returns-clause-sized : goal.returns-clause-sized
returns-clause-sized g c =
    IfOk-weaker c.asserted_wave.result
    (λ s. s ≡ interface_wave c.args.h.now c.args.spec.now)
    (λ s. length s.cells ≡ period c.args.h.now)
    (λ s e. ap (λ w. length w.cells) e ∙ length_interface c.args.h.now c.args.spec.now)
    c.asserted_wave.ensures
