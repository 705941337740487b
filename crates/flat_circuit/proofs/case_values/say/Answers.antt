use Rattle.std.proofs.Common.{arith, slice_index_or}
use Rattle.flat_circuit.specs.Table.{said}
use Rattle.flat_circuit.proofs.Values.{said_at, not_there}
use Rattle.flat_circuit.proofs.case_values.say.Goals as goal

pub returns-then-place-lt-NETS : goal.returns-then-place-lt-NETS
returns-then-place-lt-NETS c i below =
    said_at c.args.table.now c.args.net i c.args.one c.byte_of.result (omega (arith, c.if-place-lt-NETS.true, c.told-table)) c.byte_of.ensures

pub returns-else-place-lt-NETS : goal.returns-else-place-lt-NETS
returns-else-place-lt-NETS c i below =
    not_there c.args.net i 65536 _ (said (slice_index_or c.args.table.now i 0)) (omega arith) below
