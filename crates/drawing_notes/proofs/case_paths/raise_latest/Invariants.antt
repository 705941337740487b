use Rattle.std.proofs.Common.{None}
use Rattle.drawing_notes.proofs.Raising.{with_edges}
use Rattle.drawing_notes.proofs.Stepped.{SteppedTo}
use Rattle.drawing_notes.proofs.case_paths.raise_latest.Given as goal

abbrev pub invariant-loop-net : goal.invariant-loop-net
invariant-loop-net g l = SteppedTo None (with_edges l.edges.items) l.fn.latest l.net l.latest
