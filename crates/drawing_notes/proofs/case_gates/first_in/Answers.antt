use Rattle.std.proofs.Common.{length, sym}
use Rattle.drawing_notes.proofs.Heeding.{pins_exist}
use Rattle.drawing_notes.proofs.case_gates.first_in.Goals as goal

pub first_pin-requires : goal.first_pin-requires
first_pin-requires g c =
    pins_exist c.args.c.now (length c.args.waves.now) c.args.number c.in-Some.instance.now c.known.ensures (sym c.in-Some.ensures)
    c.requires.each_net
