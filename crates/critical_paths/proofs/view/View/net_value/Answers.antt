use Rattle.std.proofs.Common.{◌≡◌, ◌<◌, pos, ◌-ℤ◌, to_z, of_z, w64, rules, FitsSigned, length, ap, ◌∙◌, arith}
use Rattle.std.proofs.lemmas.Int.{ints}
use Rattle.critical_paths.specs.Tick.{slot_of}
use Rattle.scald_base.specs.Time.{Bounds, period}
use Rattle.fixpoint_engine.specs.Waves.{waves_of}
use Rattle.critical_paths.specs.Views.{reach_of}
use Rattle.critical_paths.proofs.Showing.{read_shows}
use Rattle.critical_paths.proofs.view.View.net_value.Goals as goal

pub returns : goal.returns
returns g c =
    let sees = c.requires.sees in
    let w = waves_of c.args.self.now.waves.now c.args.net in
    let long : length w.cells ≡ period c.args.self.now.circuit.now.header =
    sees.fit.each_slot c.args.net c.requires.net in
    let some : 0 < period c.args.self.now.circuit.now.header =
    (let shortest = c.period.ensures.shortest in let is = c.period.ensures.is in
    omega (arith, shortest, is)) in
    let least = ap (λ (b : Bounds). b.min) c.wire.view_is in
    let one : FitsSigned w64 (to_z w64 (of_z w64 c.args.tick) -ℤ to_z w64
    (of_z w64 c.from.result)) = search rules in
    let two : FitsSigned w64 (to_z w64 (of_z w64
    (to_z w64 (of_z w64 c.args.tick) -ℤ to_z w64 (of_z w64 c.from.result))) -ℤ to_z w64
    (of_z w64 c.from-2.result)) = search rules in
    let at : to_z w64 (of_z w64 (to_z w64 (of_z w64
    (to_z w64 (of_z w64 c.args.tick) -ℤ to_z w64 (of_z w64 c.from.result))) -ℤ to_z w64
    (of_z w64 c.from-2.result)))
    ≡ (c.args.tick -ℤ pos c.args.wire.min) -ℤ pos c.reach-back.result =
    omega (arith, ints, one, two, least, c.from.ensures, c.from-2.ensures) in
    let short = c.reach-back.ensures.within in
    read_shows w c.at-wave.result.now (g.W.CyclicWave.cells c.wave.result.now) c.args.wire
    c.args.reading
    (period c.args.self.now.circuit.now.header) c.skew.result c.reach-back.result c.slot.result
    c.args.tick c.joined_from.result
    (sees.normal c.args.net c.requires.net) long some
    (let is = c.period.ensures.is in omega (arith, short, is))
    c.at-wave.ensures c.wave.ensures c.skew.ensures
    (c.reach-back.ensures.is ∙ ap (reach_of c.args.reading c.skew.result c.args.wire)
    c.period.ensures.is)
    (c.slot.ensures.is ∙ ap (slot_of (period c.args.self.now.circuit.now.header)) at)
    c.joined_from.ensures
