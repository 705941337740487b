use Rattle.flat_circuit.proofs.Rows.{rows_start, rows_step, rows_done}
use Rattle.flat_circuit.proofs.readers.readers.Goals as goal

pub loop-k-init : goal.loop-k-init
loop-k-init c = rows_start c.args.instances.now c.args.nets c.in_ok-rows.rows.items c.in_ok-rows.ensures

pub loop-k-preserved : goal.loop-k-preserved
loop-k-preserved c = rows_step c.args.instances.now c.args.nets c.loop-k.k c.loop-k.rows.items c.note_instance.new.rows.items
    c.index-instances-k.result c.loop-k-test.true c.index-instances-k.is
    c.in_ok-note_instance.ensures.long c.in_ok-note_instance.ensures.noted c.loop-k.invariant

pub returns : goal.returns
returns c = rows_done c.args.instances.now c.args.nets c.loop-k.k c.loop-k.rows.items c.loop-k-test.false c.loop-k.invariant
