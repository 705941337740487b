use Rattle.std.proofs.Common.{length, ◌∙◌, refl, arith, None}
use Rattle.fixpoint_engine.specs.Waves.{waves_of}
use Rattle.fixpoint_engine.proofs.ByNumber.{known_long, known_at}
use Rattle.point_check.specs.Faults.{net_fault}
use Rattle.point_check.proofs.AsBefore.{same_net}
use Rattle.point_check.proofs.before.net_before.Goals as goal

pub bounds-known-number : goal.bounds-known-number
bounds-known-number g c =
    let ws = waves_of c.args.before.now.waves.now in
    let long = known_long (net_fault c.args.c.now ws) (length c.args.c.now.nets) c.args.before.now.known.now.nets c.as_slice-known.result.now c.requires.before.known.nets c.as_slice-known.ensures in
    let below = c.requires.exists in
    omega (arith, long, below)

pub returns : goal.returns
returns g c =
    let ws = waves_of c.args.before.now.waves.now in
    let vs = waves_of c.args.waves.now in
    known_at (net_fault c.args.c.now ws) (length c.args.c.now.nets) c.args.before.now.known.now.nets c.as_slice-known.result.now c.args.number None
    c.requires.before.known.nets c.as_slice-known.ensures c.requires.exists
    ∙ same_net c.args.c.now ws vs c.args.number (c.if-not-has_one_wave.ensures.0 refl)
