use Rattle.std.proofs.Common.{drop}
use Rattle.case_analysis.proofs.Listing.{Going}
use Rattle.case_analysis.proofs.case_list.case_of.Given as goal

abbrev pub invariant-loop-entry : goal.invariant-loop-entry
invariant-loop-entry l = Going l.c l.entries (drop l.entry-index l.entries) l.named l.case
