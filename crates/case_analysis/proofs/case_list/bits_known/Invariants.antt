use Rattle.std.proofs.Common.{take}
use Rattle.case_analysis.proofs.Entries.{AreNarrow}
use Rattle.case_analysis.proofs.case_list.bits_known.Given as goal

abbrev pub invariant-loop-i : goal.invariant-loop-i
invariant-loop-i l = AreNarrow (take l.i l.c.nets)
