use Rattle.std.proofs.Common.{drop}
use Rattle.case_analysis.proofs.Listing.{Passing}
use Rattle.case_analysis.proofs.case_list.cases_of.Given as goal

abbrev pub invariant-loop-case : goal.invariant-loop-case
invariant-loop-case l = Passing l.c l.written (drop l.case-index l.written) l.cases
