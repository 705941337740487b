use Rattle.std.proofs.Common.{None}
use Rattle.program_call.specs.Answer.{Evaluated}
use Rattle.program_call.specs.Promise.{WritesReport, may_count}
use Rattle.program_call.proofs.Outcomes.{report_written}
use Rattle.program_call.proofs.Promised.{finished, given_by, settles}
use Rattle.fault_chain.specs.Answer.{chains_of, own_word}
use Rattle.fault_chain.proofs.Drawn.{drawn_chains_are_whole}
use Rattle.fault_chain.proofs.Promised.{is_given, is_settled}
use Rattle.fault_chain.proofs.Whole.{chains_are_whole}
use Rattle.fault_chain.proofs.program.chain_main.Goals as goal

pub returns-clause-finished : goal.returns-clause-finished
returns-clause-finished g c =
    finished own_word (Evaluated chains_of None) (λ text. WritesReport chains_of text _ _ _)
    c.args.words.now _ _ _ _ _ _
    (λ text writes. report_written chains_of text _ _ _ writes) c.main_call.ensures.whole

pub returns-clause-given : goal.returns-clause-given
returns-clause-given g c spoken =
    given_by own_word (Evaluated chains_of None) may_count is_given
    c.args.words.now _ _ _ _ _ (c.main_call.ensures.replied spoken)

pub returns-clause-loopless : goal.returns-clause-loopless
returns-clause-loopless g c text told =
    settles own_word (Evaluated chains_of None) is_settled c.args.words.now text _
    _ _ (λ spoken. c.main_call.ensures.truthful text told spoken)

pub returns-clause-chains_whole : goal.returns-clause-chains_whole
returns-clause-chains_whole g c = chains_are_whole

pub returns-clause-drawn_whole : goal.returns-clause-drawn_whole
returns-clause-drawn_whole g c = drawn_chains_are_whole
