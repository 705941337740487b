use Rattle.std.proofs.Common.{ap}
use Rattle.timing_analysis.specs.Promise.{FaultlessNeverBreaks, NeverBreaks}
use Rattle.scald_tool.specs.Promise.{has_report, speaks}
use Rattle.scald_tool.proofs.Finishing.{finished_or_not}
use Rattle.scald_tool.proofs.Speaking.{given_by, of_report, report_speaks, loopless}
use Rattle.scald_tool.proofs.tool.tool_main.Goals as goal

pub returns-clause-finished : goal.returns-clause-finished
returns-clause-finished g c text told read written asks = finished_or_not c.args.words.now text _ _ _ (c.main_call.ensures.whole text told read written) asks

pub returns-clause-given : goal.returns-clause-given
returns-clause-given g c spoken = given_by c.args.words.now _ _ _ _ _ (c.main_call.ensures.replied spoken)

pub returns-clause-clean : goal.returns-clause-clean
returns-clause-clean g c =
    of_report c.args.words.now _ _ _ _ _ _ NeverBreaks (λ clean. c.main_call.ensures.replied (ap speaks clean)) (λ clean. ap has_report clean) (λ r clean. r.kept.clean clean)

pub returns-clause-faultless : goal.returns-clause-faultless
returns-clause-faultless g c =
    of_report c.args.words.now _ _ _ _ _ _ FaultlessNeverBreaks (λ has. c.main_call.ensures.replied (report_speaks _ has)) (λ has. has) (λ r has. r.kept.faultless has)

pub returns-clause-loopless : goal.returns-clause-loopless
returns-clause-loopless g c text told = loopless c.args.words.now _ _ _ _ _ text told c.main_call.ensures.replied
