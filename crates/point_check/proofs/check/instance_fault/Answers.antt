use Rattle.std.proofs.Common.{sym, ◌∙◌}
use Rattle.fixpoint_engine.specs.Waves.{waves_of}
use Rattle.flat_circuit.proofs.Numbered.{fits_of}
use Rattle.point_check.proofs.Gathered.{instance_is, instance_not}
use Rattle.point_check.proofs.Watched.{unwatched}
use Rattle.point_check.proofs.check.instance_fault.Goals as goal

pub returns-in_default : goal.returns-in_default
returns-in_default g c =
    instance_not c.args.c.now (waves_of c.args.waves.now) c.args.number c.in_default.ensures

pub is_watched-requires : goal.is_watched-requires
is_watched-requires g c =
    (fits_of c.args.c.now c.args.number c.in-Some.instance.now c.known.ensures (sym c.in-Some.ensures)).pins

pub returns-then-not-is_watched : goal.returns-then-not-is_watched
returns-then-not-is_watched g c =
    unwatched c.args.c.now (waves_of c.args.waves.now) c.args.number c.in-Some.instance.now c.in-Some.ensures
    (sym c.is_watched.ensures ∙ c.if-not-is_watched.true)

pub fault_by_kind-requires-clause-fits : goal.fault_by_kind-requires-clause-fits
fault_by_kind-requires-clause-fits g c =
    fits_of c.args.c.now c.args.number c.in-Some.instance.now c.known.ensures (sym c.in-Some.ensures)

pub returns : goal.returns
returns g c =
    instance_is c.args.c.now (waves_of c.args.waves.now) c.args.number c.in-Some.instance.now
    c.in_ok-found.found c.in-Some.ensures c.in_ok-found.ensures
