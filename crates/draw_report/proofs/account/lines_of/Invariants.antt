use Rattle.std.proofs.Common.{◌≤◌, length}
use Rattle.draw_report.specs.Caption.{AreShort}
use Rattle.draw_report.proofs.account.lines_of.Given as goal

abbrev pub invariant-loop-count : goal.invariant-loop-count
invariant-loop-count l = record {
  few : length l.lines ≤ l._count;
  short : AreShort l.lines;
}
