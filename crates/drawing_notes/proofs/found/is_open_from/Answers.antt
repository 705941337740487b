use Rattle.std.proofs.Common.{◌∙◌, length, sym}
use Rattle.fixpoint_engine.specs.Waves.{waves_of}
use Rattle.drawing_notes.proofs.Heeding.{opens_where, pins_exist}
use Rattle.drawing_notes.proofs.found.is_open_from.Goals as goal

pub has_open_pin_on-requires : goal.has_open_pin_on-requires
has_open_pin_on-requires g c =
    let v = c.args.view.now in
    record {
      exist = pins_exist v.circuit.now (length v.waves.now) c.args.number c.args.instance.now c.known.ensures (sym c.requires.is) c.requires.sees.1.fit.each_net;
    }

pub returns : goal.returns
returns g c =
    let v = c.args.view.now in
    c.has_open_pin_on.ensures
    ∙ opens_where v.circuit.now (waves_of v.waves.now) v.held.now c.requires.sees.1.marks c.args.number c.args.instance.now (sym c.requires.is) c.args.net c.has.result
    c.has.ensures (sym c.passes.ensures ∙ c.if-not-passes.false)
