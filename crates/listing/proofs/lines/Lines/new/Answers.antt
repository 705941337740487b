use Rattle.std.proofs.Common.{arith}
use Rattle.listing.proofs.lines.Lines.new.Goals as goal

pub returns-clause-are : goal.returns-clause-are
returns-clause-are c d = record {
  parts = rw c.new-2.ensures tt;
  last = record { up = omega arith; within = omega arith };
  known = rw c.new-3.ensures tt;
}
