use Rattle.std.proofs.Common.{length, ◌∙◌, refl, sym, arith}
use Rattle.std.proofs.lemmas.Option.{slice_get_within}
use Rattle.fixpoint_engine.specs.Waves.{waves_of}
use Rattle.fixpoint_engine.proofs.ByNumber.{known_long, known_at}
use Rattle.flat_circuit.proofs.Numbered.{fits_of}
use Rattle.pulse_check.specs.Faults.{instance_faults}
use Rattle.pulse_check.proofs.AsBefore.{same_instance}
use Rattle.pulse_check.proofs.before.faults_before.Goals as goal

pub is_checked_as_before-requires-clause-fits : goal.is_checked_as_before-requires-clause-fits
is_checked_as_before-requires-clause-fits g c =
    fits_of c.args.c.now c.args.number c.args.checker.now c.known.ensures (sym c.requires.at)

pub bounds-known-number : goal.bounds-known-number
bounds-known-number g c =
    let ws = waves_of c.args.before.now.waves.now in
    let long = known_long (instance_faults c.args.c.now ws) (length c.args.c.now.instances) c.args.before.now.known.now c.as_slice-known.result.now c.requires.before.known c.as_slice-known.ensures in
    let below = slice_get_within c.args.c.now.instances c.args.number c.args.checker.now (sym c.requires.at) in
    omega (arith, long, below)

pub returns : goal.returns
returns g c =
    let ws = waves_of c.args.before.now.waves.now in
    let vs = waves_of c.args.waves.now in
    c.index-known-number.is
    ∙ known_at (instance_faults c.args.c.now ws) (length c.args.c.now.instances) c.args.before.now.known.now c.as_slice-known.result.now c.args.number c.index-known-number.result
    c.requires.before.known c.as_slice-known.ensures
    (slice_get_within c.args.c.now.instances c.args.number c.args.checker.now (sym c.requires.at))
    ∙ same_instance c.args.c.now ws vs c.args.number c.args.checker.now c.requires.at
    (c.if-not-is_checked_as_before.ensures refl)
