use Rattle.std.proofs.Common.{None}
use Rattle.program_call.specs.Answer.{Evaluated}
use Rattle.program_call.specs.Promise.{WritesReport}
use Rattle.program_call.proofs.Outcomes.{report_written}
use Rattle.program_call.proofs.Promised.{finished, given_by, settles}
use Rattle.margin_report.specs.Answer.{margins_of, own_word}
use Rattle.margin_report.specs.Promise.{may_answer}
use Rattle.margin_report.proofs.Greatest.{margins_are_true}
use Rattle.margin_report.proofs.Monotone.{fitting_is_monotone}
use Rattle.margin_report.proofs.Promised.{is_given, is_settled}
use Rattle.margin_report.proofs.Tried.{tried_as_written}
use Rattle.margin_report.proofs.program.margin_main.Goals as goal

pub returns-clause-finished : goal.returns-clause-finished
returns-clause-finished g c =
    finished own_word (Evaluated margins_of None)
    (λ text. WritesReport margins_of text _ _ _) c.args.words.now _ _ _ _ _ _
    (λ text writes. report_written margins_of text _ _ _ writes) c.main_call.ensures.whole

pub returns-clause-given : goal.returns-clause-given
returns-clause-given g c spoken =
    given_by own_word (Evaluated margins_of None) may_answer is_given
    c.args.words.now _ _ _ _ _ (c.main_call.ensures.replied spoken)

pub returns-clause-loopless : goal.returns-clause-loopless
returns-clause-loopless g c text told =
    settles own_word (Evaluated margins_of None) is_settled c.args.words.now text _
    _ _ (λ spoken. c.main_call.ensures.truthful text told spoken)

pub returns-clause-as_written : goal.returns-clause-as_written
returns-clause-as_written g c = tried_as_written

pub returns-clause-monotone : goal.returns-clause-monotone
returns-clause-monotone g c = fitting_is_monotone

pub returns-clause-margins_true : goal.returns-clause-margins_true
returns-clause-margins_true g c = margins_are_true
