use Rattle.std.proofs.Common.{◌≡◌, ◌<◌, ◌≤◌, to_z, of_z, w64, ap, ◌∙◌, subst, arith}
use Rattle.std.proofs.lemmas.Int.{ints}
use Rattle.scald_base.specs.Time.{IsHeader, period}
use Rattle.fixpoint_engine.specs.Waves.{waves_of}
use Rattle.critical_paths.specs.Tick.{slot_of}
use Rattle.critical_paths.specs.Views.{shown}
use Rattle.step_values.specs.Cell.{values}
use Rattle.skew_algebra.specs.Wave.{moved}
use Rattle.critical_paths.proofs.Showing.{constant_target, net_target}
use Rattle.critical_paths.proofs.Ticks.{slot_lt}
use Rattle.critical_paths.proofs.view.View.target_value.Goals as goal

pub returns-in-Constant : goal.returns-in-Constant
returns-in-Constant g c =
    let circuit = c.args.self.now.circuit.now in
    let known = subst IsHeader c.header.ensures c.known.ensures in
    let least : 2 ≤ period circuit.header = known.shortest in
    let some : 0 < period circuit.header = omega (arith, least) in
    constant_target circuit (waves_of c.args.self.now.waves.now) c.args.pin.target c.in-Constant.one
    c.args.reading
    (slot_of (period circuit.header) c.args.tick) c.constant.result some
    (slot_lt (period circuit.header) c.args.tick some)
    c.in-Constant.is c.constant.ensures

pub returns-in-Net : goal.returns-in-Net
returns-in-Net g c =
    let circuit = c.args.self.now.circuit.now in
    let at : to_z w64 (of_z w64 c.args.tick) ≡ c.args.tick = omega (arith, ints) in
    net_target circuit (waves_of c.args.self.now.waves.now) c.args.pin.target c.in-Net.net
    c.wire_behind.result c.args.reading
    (slot_of (period circuit.header) c.args.tick) c.net_value.result c.in-Net.is
    c.wire_behind.ensures
    (c.net_value.ensures ∙ ap (λ t. shown c.args.reading
    (moved values (waves_of c.args.self.now.waves.now c.in-Net.net) c.wire_behind.result)
    (slot_of (period circuit.header) t)) at)
