use Rattle.std.proofs.Common.{◌≡◌, ◌<◌, length, arith, subst, sym, true, false, IfOk}
use Rattle.std.proofs.lemmas.Result.{IfOk-weaker}
use Rattle.step_values.specs.Cell.{values}
use Rattle.skew_algebra.specs.Wave.{flipped}
use Rattle.pin_waves.specs.Pin.{KeepsPin}
use Rattle.pin_waves.proofs.Pins.{length_late, length_turned, keeps_pin, keeps_turned_pin}
use Rattle.pin_waves.proofs.pin.pin_wave.Goals as goal

pub returns-then-inverted-clause-permits : goal.returns-then-inverted-clause-permits
returns-then-inverted-clause-permits g c =
    let net = c.args.net.now in
    let late = c.in_ok-late.late in
    let some : 0 < length c.args.net.now.cells =
    let p = c.known.ensures.sized.shortest in omega (arith, p) in
    subst (λ b. IfOk c.flipped.result (λ s. KeepsPin net s c.args.wire b)) (sym c.if-inverted.true)
    (IfOk-weaker c.flipped.result
    (λ s. s ≡ flipped values late)
    (λ s. KeepsPin net s c.args.wire true)
    (λ s e. keeps_turned_pin net late s c.args.wire some c.in_ok-late.ensures.wave e)
    c.flipped.ensures.wave)

pub returns-else-inverted-clause-permits : goal.returns-else-inverted-clause-permits
returns-else-inverted-clause-permits g c =
    let net = c.args.net.now in
    let late = c.in_ok-late.late in
    let some : 0 < length c.args.net.now.cells =
    let p = c.known.ensures.sized.shortest in omega (arith, p) in
    subst (λ b. KeepsPin net late c.args.wire b) (sym c.if-inverted.false)
    (keeps_pin net late c.args.wire false some c.in_ok-late.ensures.wave)

pub returns-then-inverted-clause-sized : goal.returns-then-inverted-clause-sized
returns-then-inverted-clause-sized g c =
    let net = c.args.net.now in
    let late = c.in_ok-late.late in
    IfOk-weaker c.flipped.result
    (λ s. s ≡ flipped values late)
    (λ s. length s.cells ≡ length net.cells)
    (λ s e. length_turned net late s c.args.wire c.in_ok-late.ensures.wave e)
    c.flipped.ensures.wave

pub returns-else-inverted-clause-sized : goal.returns-else-inverted-clause-sized
returns-else-inverted-clause-sized g c =
    let net = c.args.net.now in
    let late = c.in_ok-late.late in
    length_late net late c.args.wire c.in_ok-late.ensures.wave
