use Rattle.flat_circuit.proofs.Tables.{same_spans}
use Rattle.flat_circuit.proofs.assertions.is_same_spans.Goals as goal

pub returns : goal.returns
returns c = rw c.eq.ensures (same_spans c.args.a.now c.args.b.now)
