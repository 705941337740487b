use Rattle.draw_report.proofs.Clocks.{AreMarked}
use Rattle.draw_report.proofs.clock.clocks.Given as goal

abbrev pub invariant-loop-number : goal.invariant-loop-number
invariant-loop-number l = AreMarked l.c l.number l.clocks
