use Rattle.std.proofs.Common.{◌≡◌, ◌<◌, ◌≤◌, ℤ, pos, ◌-ℤ◌, to_z, of_z, w64, refl, ap, subst, ◌∙◌, arith, rules, below_more, Some}
use Rattle.std.specs.Prelude.{nat_lt}
use Rattle.std.proofs.lemmas.Int.{ints}
use Rattle.scald_base.specs.Time.{Bounds, IsHeader, period}
use Rattle.flat_circuit.specs.Circuit.{wire_at}
use Rattle.fixpoint_engine.specs.Waves.{target_wire, waves_of}
use Rattle.critical_paths.specs.Tick.{slot_of}
use Rattle.critical_paths.specs.Path.{choices, inward, is_event}
use Rattle.critical_paths.specs.Views.{behind}
use Rattle.critical_paths.proofs.Wires.{nowhere, seen, unseen}
use Rattle.critical_paths.proofs.view.View.behind.Goals as goal

pub loop-by-preserved : goal.loop-by-preserved
loop-by-preserved g c =
    let circuit = c.args.self.now.circuit.now in
    let ws = waves_of c.args.self.now.waves.now in
    let known = subst IsHeader c.header.ensures c.known.ensures in
    let least : 2 ≤ period circuit.header = known.shortest in
    let some : 0 < period circuit.header = omega (arith, least) in
    let net = c.in-Net.net in
    let direction = c.turned-direction.result in
    let wire_is = c.inside-wire.ensures
    ∙ ap (λ (b : Bounds). inward c.args.at.corner b c.loop-by.by) (c.wire_behind-delay.ensures
    ∙ ap (target_wire circuit.nets) c.in-Net.is) in
    let sooner : to_z w64 (of_z w64 c.sooner-tick.result) ≡ c.args.at.tick -ℤ pos
    c.inside-wire.result = omega (arith, ints, c.sooner-tick.ensures) in
    let asked = c.permits.ensures
    ∙ ap (λ (t : ℤ). is_event circuit ws (record {
      net = net;
      direction = direction;
      slot = slot_of (period circuit.header) t;
    })) sooner in
    below_more _ _ c.loop-by.invariant
    (unseen circuit ws c.args.at.corner c.args.at.tick direction net some c.loop-by.by
    c.inside-wire.result c.permits.result wire_is
    c.if-permits.false asked)

pub returns-then-permits-clause-is : goal.returns-then-permits-clause-is
returns-then-permits-clause-is g c =
    let circuit = c.args.self.now.circuit.now in
    let ws = waves_of c.args.self.now.waves.now in
    let known = subst IsHeader c.header.ensures c.known.ensures in
    let least : 2 ≤ period circuit.header = known.shortest in
    let some : 0 < period circuit.header = omega (arith, least) in
    let net = c.in-Net.net in
    let direction = c.turned-direction.result in
    let wire_is = c.inside-wire.ensures
    ∙ ap (λ (b : Bounds). inward c.args.at.corner b c.loop-by.by) (c.wire_behind-delay.ensures
    ∙ ap (target_wire circuit.nets) c.in-Net.is) in
    let sooner : to_z w64 (of_z w64 c.sooner-tick.result) ≡ c.args.at.tick -ℤ pos
    c.inside-wire.result = omega (arith, ints, c.sooner-tick.ensures) in
    let asked = c.permits.ensures
    ∙ ap (λ (t : ℤ). is_event circuit ws (record {
      net = net;
      direction = direction;
      slot = slot_of (period circuit.header) t;
    })) sooner in
    let wire_at_net = c.wire_behind-delay.ensures ∙ ap (target_wire circuit.nets) c.in-Net.is in
    let many : choices c.wire_behind-delay.result ≡ choices (wire_at circuit.nets net) =
    ap choices wire_at_net in
    let test = c.loop-by-test.true in
    let below : c.loop-by.by < choices (wire_at circuit.nets net) =
    omega (arith, test, c.choices-by-end.ensures, many) in
    ap (λ (t : ℤ). Some (record {
      event = record { net = net; direction = direction; slot = slot_of (period circuit.header) t };
      wire = c.inside-wire.result;
      is_inside = nat_lt 0 c.loop-by.by;
    })) sooner
    ∙ seen circuit ws c.args.at.corner c.args.at.tick direction net some c.loop-by.by
    c.inside-wire.result c.permits.result (nat_lt 0 c.loop-by.by)
    c.args.at.pin.target c.in-Net.is below c.loop-by.invariant wire_is refl c.if-permits.true asked
    ∙ ap (λ d. behind circuit ws c.args.at.corner (slot_of (period circuit.header) c.args.at.tick) d
    c.args.at.pin.target) c.turned-direction.ensures

pub returns-clause-is : goal.returns-clause-is
returns-clause-is g c =
    let circuit = c.args.self.now.circuit.now in
    let ws = waves_of c.args.self.now.waves.now in
    let known = subst IsHeader c.header.ensures c.known.ensures in
    let least : 2 ≤ period circuit.header = known.shortest in
    let some : 0 < period circuit.header = omega (arith, least) in
    let test = c.loop-by-test.false in
    let ordered : c.wire_behind-delay.result.min ≤ c.wire_behind-delay.result.max = search rules in
    nowhere circuit ws c.args.at.corner c.args.at.tick c.turned-direction.result c.in-Net.net some
    c.choices-by-end.result c.args.at.pin.target
    c.wire_behind-delay.result c.in-Net.is c.wire_behind-delay.ensures ordered
    c.choices-by-end.ensures
    (λ n below. c.loop-by.invariant n (omega (arith, below, test)))
    ∙ ap (λ d. behind circuit ws c.args.at.corner (slot_of (period circuit.header) c.args.at.tick) d
    c.args.at.pin.target) c.turned-direction.ensures
