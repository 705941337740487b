use Rattle.std.proofs.Common.{◌≡◌, All, take, refl, subst, arith}
use Rattle.std.proofs.lemmas.List.{take_all}
use Rattle.std.proofs.lemmas.List.Elements.{All-more}
use Rattle.fixpoint_engine.specs.Waves.{waves_of}
use Rattle.fixpoint_engine.specs.SameWaves.{IsSameAt}
use Rattle.point_check.proofs.before.have_one_wave_at.Goals as goal

pub loop-pin-preserved : goal.loop-pin-preserved
loop-pin-preserved g c =
    All-more (IsSameAt (waves_of c.args.before.now) (waves_of c.args.waves.now)) c.args.pins.now c.loop-pin.pin-index _
    (let inside = c.loop-pin-test.true in omega (arith, inside)) c.loop-pin.invariant (c.if-not-has_one_wave_at.ensures.0 refl)

pub returns : goal.returns
returns g c =
    let whole : take c.loop-pin.pin-index c.args.pins.now ≡ c.args.pins.now = take_all c.loop-pin.pin-index c.args.pins.now (let past = c.loop-pin-test.false in omega (arith, past)) in
    (λ same. subst (All (IsSameAt (waves_of c.args.before.now) (waves_of c.args.waves.now))) whole c.loop-pin.invariant, λ all. refl)
