use Rattle.std.proofs.Common.{◌∙◌, sym, arith}
use Rattle.std.proofs.lemmas.Option.{slice_get_within}
use Rattle.flat_circuit.proofs.Numbered.{fits_of}
use Rattle.fixpoint_engine.specs.Waves.{waves_of}
use Rattle.slack_report.proofs.Hazards.{marked_more, marked_none}
use Rattle.slack_report.proofs.collected.add_instance.Goals as goal

pub has_hazard-requires-clause-fits : goal.has_hazard-requires-clause-fits
has_hazard-requires-clause-fits g c =
    fits_of c.args.c.now c.args.number c.in-Some.instance.now c.known.ensures (sym c.in-Some.ensures)

pub add_if-requires-clause-room : goal.add_if-requires-clause-room
add_if-requires-clause-room g c =
    let below = slice_get_within c.args.c.now.instances c.args.number c.in-Some.instance.now
    (sym c.in-Some.ensures) in
    let long = c.requires.marked.long in omega (arith, below, long)

pub add_if-requires-clause-new : goal.add_if-requires-clause-new
add_if-requires-clause-new g c = c.requires.marked.rest c.args.number (omega arith)

pub returns : goal.returns
returns g c =
    marked_more c.args.c.now (waves_of c.args.waves.now) c.args.found.now _ c.args.number
    c.in-Some.instance.now c.requires.marked (sym c.in-Some.ensures) c.add_if.ensures.long
    (c.add_if.ensures.here ∙ c.in_ok-is_there.ensures) c.add_if.ensures.other

pub returns-in_default : goal.returns-in_default
returns-in_default g c =
    marked_none c.args.c.now (waves_of c.args.waves.now) c.args.found.now c.args.number
    c.requires.marked (sym c.in_default.ensures)
