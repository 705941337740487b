use Rattle.std.proofs.Common.{false, arith}
use Rattle.fault_decider.proofs.row.bit_in.Goals as goal

pub returns-in-None : goal.returns-in-None
returns-in-None c = c.in-None.ensures.lookup.4 (omega arith) false

pub returns-in-Some : goal.returns-in-Some
returns-in-Some c = c.in-Some.ensures.lookup.3.1 false
