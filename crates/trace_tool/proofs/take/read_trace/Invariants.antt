use Rattle.std.proofs.Common.{◌≡◌, drop}
use Rattle.trace_tool.specs.Scan.{lines_of}
use Rattle.trace_tool.specs.Taking.{AreLong}
use Rattle.trace_tool.proofs.Fronts.{AreRight}
use Rattle.trace_tool.proofs.take.read_trace.Given as goal

abbrev pub invariant-loop-place : goal.invariant-loop-place
invariant-loop-place l = record {
  long : AreLong l.c l.trace;
  right : AreRight l.extent l.c l.trace (lines_of l.lines) l.place;
  cut : drop l.place (lines_of l.lines) ≡ lines_of l.rest;
}
