use Rattle.flat_circuit.proofs.Rows.{row_written}
use Rattle.flat_circuit.proofs.readers.note_at.Goals as goal

pub returns-clause-noted : goal.returns-clause-noted
returns-clause-noted c = row_written c.args.rows.now.items c.args.i c.args.k c.index_mut.result.now c.note_row.new.row c.requires c.index_mut.ensures.value c.in_ok-note_row.ensures
