use Rattle.std.proofs.Common.{◌<◌, ap, ◌∙◌, arith}
use Rattle.std.proofs.lemmas.Int.{ints}
use Rattle.scald_base.specs.Time.{Bounds, period}
use Rattle.fixpoint_engine.specs.Waves.{target_wire, waves_of}
use Rattle.critical_paths.proofs.PinPaths.{end_path_is}
use Rattle.critical_paths.proofs.view.View.end_path.Goals as goal

pub returns-clause-path : goal.returns-clause-path
returns-clause-path g c =
    let circuit = c.args.self.now.circuit.now in
    let at = c.args.at in
    let least = c.period-period.ensures.shortest in
    let some : 0 < period circuit.header = omega (arith, least, c.period-period.ensures.is) in
    let near = c.requires.tick in
    end_path_is circuit (waves_of c.args.self.now.waves.now) at.corner at.direction c.turned.result
    at.pin.inverted at.pin.target c.in-Net.net
    c.wire.inside.min at.tick _ _ some c.in-Net.is c.turned.ensures
    (ap (λ (b : Bounds). b.min) (c.wire.view_is ∙ c.wire_behind.ensures
    ∙ ap (target_wire circuit.nets) c.in-Net.is))
    (omega (arith, ints, c.from.ensures, near)) c.in_ok-path.ensures.path
