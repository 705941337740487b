use Rattle.std.proofs.Common.{refl}
use Rattle.critical_paths.specs.declared.direction.Corner.TheVariants.{Late, Early}
use Rattle.slack_rows.proofs.Launching.{explains_found, explains_stays, goes_same, goes_then}
use Rattle.fixpoint_engine.specs.Waves.{waves_of}
use Rattle.slack_rows.proofs.causes.pulse_paths.Goals as goal

pub returns-clause-corners : goal.returns-clause-corners
returns-clause-corners g c = (
  explains_stays _ _ Late c.in_ok-data.«data» c.in_ok-clock.ensures.grows
      (explains_found _ Late Late c.in_ok-data.«data» refl c.in_ok-data.ensures.corner),
  explains_found _ Early Early c.in_ok-clock.clock refl c.in_ok-clock.ensures.corner,
)

pub returns-clause-paths : goal.returns-clause-paths
returns-clause-paths g c =
    let circuit = c.args.view.now.circuit.now in
    let ws = waves_of c.args.view.now.waves.now in
    let begin = c.in_ok-data.ensures in
    let end = c.in_ok-clock.ensures in
    goes_then circuit ws c.args.paths.now c.end_path.new.paths c.end_path-2.new.paths
    (goes_same circuit ws c.args.paths.now c.end_path.new.paths begin.knows begin.grows begin.known begin.arrivals)
    (goes_same circuit ws c.end_path.new.paths c.end_path-2.new.paths end.knows end.grows end.known end.arrivals)
