use Rattle.std.proofs.Common.{sym}
use Rattle.flat_circuit.proofs.Numbered.{fits_of}
use Rattle.drawing_notes.proofs.held.keeps_mark_at.Goals as goal

pub keeps_mark-requires-clause-fits : goal.keeps_mark-requires-clause-fits
keeps_mark-requires-clause-fits g c =
    fits_of c.args.c.now c.args.number c.in-Some.instance.now c.known.ensures (sym c.in-Some.ensures)
