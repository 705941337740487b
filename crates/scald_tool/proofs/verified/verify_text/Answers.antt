use Rattle.std.proofs.Common.{inr, ap, subst, ◌∙◌, ℕ, Option}
use Rattle.scald_tool.specs.declared.words.Command.TheVariants.{Verify}
use Rattle.program_call.specs.Answer.{is_finished}
use Rattle.scald_tool.specs.Answer.{Verified}
use Rattle.scald_tool.proofs.Promised.{clean_never_breaks}
use Rattle.scald_tool.proofs.Promising.{is_given, report_finished, verified_settles}
use Rattle.scald_tool.proofs.Verifying.{put_behind, given_remembers}
use Rattle.scald_tool.proofs.verified.verify_text.Goals as goal

pub returns-in-Ok-extend-clause-whole : goal.returns-in-Ok-extend-clause-whole
returns-in-Ok-extend-clause-whole g c =
    inr (put_behind c.args.mode c.args.rounds c.args.text.now _ _ _ _ _ c.in-Ok.ensures.is (c.as_slice.ensures ∙ c.in-Ok-joined.ensures) c.in-Ok-extend.ensures.ok)

pub returns-in-Ok-extend-clause-no_memory : goal.returns-in-Ok-extend-clause-no_memory
returns-in-Ok-extend-clause-no_memory g c none =
    given_remembers c.args.mode c.args.rounds _ _
    (is_given (Verify c.args.mode c.args.rounds) c.args.text.now _ _ c.in-Ok.ensures.is) none

pub returns-in-Ok-extend-clause-given : goal.returns-in-Ok-extend-clause-given
returns-in-Ok-extend-clause-given g c =
    inr (is_given (Verify c.args.mode c.args.rounds) c.args.text.now _ _ c.in-Ok.ensures.is)

pub returns-in-Ok-extend-clause-clean : goal.returns-in-Ok-extend-clause-clean
returns-in-Ok-extend-clause-clean g c clean =
    clean_never_breaks c.args.mode c.args.rounds c.args.text.now _ _ c.in-Ok.ensures.is clean
    (c.in-Ok.ensures.faultless (ap is_finished clean))

pub returns-in-Ok-extend-clause-faultless : goal.returns-in-Ok-extend-clause-faultless
returns-in-Ok-extend-clause-faultless g c has = c.in-Ok.ensures.faultless (report_finished _ has)

pub returns-in-Ok-extend-clause-loopless : goal.returns-in-Ok-extend-clause-loopless
returns-in-Ok-extend-clause-loopless g c place round none free =
    verified_settles c.args.mode c.args.text.now _ _
    (subst (λ (rounds : Option ℕ). Verified c.args.mode rounds c.args.text.now c.in-Ok.reply.outcome
    c.in-Ok.reply.bytes) none c.in-Ok.ensures.is)
    free place round
