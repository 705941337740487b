use Rattle.std.proofs.Common.{◌+◌, arith}
use Rattle.point_check.proofs.ReadSlots.{slot_back}
use Rattle.point_check.proofs.edges.slot_at.Goals as goal

pub returns-clause-slot : goal.returns-clause-slot
returns-clause-slot c = slot_back c.args.period (c.args.edge + 1 + c.args.place) c.args.window.setup (omega arith) c.requires.early
