use Rattle.std.proofs.Common.{sym, subst}
use Rattle.case_analysis.specs.Listed.{AreCasesStop}
use Rattle.case_analysis.proofs.Listing.{too_many, whole_answer, few_listed}
use Rattle.case_analysis.proofs.case_list.check_cases.Goals as goal

pub returns-in-Some-clause-is : goal.returns-in-Some-clause-is
returns-in-Some-clause-is c =
    subst (AreCasesStop c.args.c.now c.args.written.now) (sym c.refused.ensures)
    (too_many c.args.c.now c.args.written.now c.in-Some.case.now (sym c.in-Some.ensures))

pub returns-in-None-clause-is : goal.returns-in-None-clause-is
returns-in-None-clause-is c =
    whole_answer c.args.c.now c.args.written.now c.cases_of.result (sym c.in-None.ensures)
    (rw c.as_slice.ensures at c.cases_of.ensures.is)

pub returns-in-None-clause-few : goal.returns-in-None-clause-few
returns-in-None-clause-few c = few_listed c.args.written.now c.cases_of.result (sym c.in-None.ensures) (rw c.as_slice.ensures at c.cases_of.ensures.each)
