use Rattle.std.proofs.Common.{◌∙◌, ap, refl, sym, Some}
use Rattle.std.specs.Option.{option_map}
use Rattle.fixpoint_engine.specs.Waves.{waves_of}
use Rattle.point_check.specs.Again.{of_instance}
use Rattle.point_check.proofs.Again.{found_is}
use Rattle.point_check.proofs.last_check.LastCheck.found.Goals as goal

pub returns-in-Some-found : goal.returns-in-Some-found
returns-in-Some-found g c =
    let kept = c.in-Some.kept in
    let again = c.if-not-is_again.ensures in
    ap Some c.for_instance.ensures ∙ sym (ap (option_map (of_instance c.args.asked.instance)) c.in-Some-found.is)
    ∙ found_is c.args.c.now (waves_of c.args.waves.now) c.args.asked.clock c.args.asked.input kept.clock.wave kept.input.wave
    kept.clock.wire kept.input.wire kept.clock.inverted kept.input.inverted kept.found (again.clock refl) (again.input refl)
    kept.asked.kind c.args.asked.kind c.args.asked.instance kept.asked.limits c.args.asked.limits (again.kind refl) (again.limits refl)
    kept.is
