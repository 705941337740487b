use Rattle.std.proofs.Common.{length, ◌∙◌, refl, sym, arith, None}
use Rattle.std.proofs.lemmas.Option.{slice_get_within}
use Rattle.fixpoint_engine.specs.Waves.{waves_of}
use Rattle.fixpoint_engine.proofs.ByNumber.{known_long, known_at}
use Rattle.point_check.specs.Faults.{instance_fault}
use Rattle.point_check.proofs.AsBefore.{same_instance}
use Rattle.point_check.proofs.before.instance_before.Goals as goal

pub bounds-known-number : goal.bounds-known-number
bounds-known-number g c =
    let ws = waves_of c.args.before.now.waves.now in
    let long = known_long (instance_fault c.args.c.now ws) (length c.args.c.now.instances) c.args.before.now.known.now.instances
    c.as_slice-known.result.now c.requires.before.known.instances c.as_slice-known.ensures in
    let below = slice_get_within c.args.c.now.instances c.args.number c.args.instance.now (sym c.requires.at) in
    omega (arith, long, below)

pub returns : goal.returns
returns g c =
    let ws = waves_of c.args.before.now.waves.now in
    let vs = waves_of c.args.waves.now in
    known_at (instance_fault c.args.c.now ws) (length c.args.c.now.instances) c.args.before.now.known.now.instances c.as_slice-known.result.now c.args.number None
    c.requires.before.known.instances c.as_slice-known.ensures
    (slice_get_within c.args.c.now.instances c.args.number c.args.instance.now (sym c.requires.at))
    ∙ same_instance c.args.c.now ws vs c.args.number c.args.instance.now c.as_slice-pins.result.now
    c.requires.at c.as_slice-pins.ensures (c.if-not-have_one_wave_at.ensures.0 refl)
