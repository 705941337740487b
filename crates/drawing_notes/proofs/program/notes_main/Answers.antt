use Rattle.program_call.specs.Promise.{WritesReport, may_count}
use Rattle.program_call.proofs.Outcomes.{report_written}
use Rattle.program_call.proofs.Promised.{finished, given_by, settles}
use Rattle.drawing_notes.specs.Answer.{Noted, notes_of, own_word}
use Rattle.drawing_notes.proofs.Promised.{is_given, is_settled}
use Rattle.drawing_notes.proofs.program.notes_main.Goals as goal

pub returns-clause-finished : goal.returns-clause-finished
returns-clause-finished g c =
    finished own_word Noted (λ text. WritesReport notes_of text _ _ _) c.args.words.now _ _ _ _ _ _
    (λ text writes. report_written notes_of text _ _ _ writes) c.main_call.ensures.whole

pub returns-clause-given : goal.returns-clause-given
returns-clause-given g c spoken = given_by own_word Noted may_count is_given c.args.words.now _ _ _ _ _ (c.main_call.ensures.replied spoken)

pub returns-clause-loopless : goal.returns-clause-loopless
returns-clause-loopless g c text told =
    settles own_word Noted is_settled c.args.words.now text _ _ _ (λ spoken. c.main_call.ensures.truthful text told spoken)
