use Rattle.std.proofs.Common.{refl}
use Rattle.scald_tool.specs.declared.words.Command.TheVariants.{Verify, Format, Upgrade, Bench}
use Rattle.scald_tool.proofs.Promising.{form_promised, verify_promised}
use Rattle.scald_tool.proofs.Replies.{by_form}
use Rattle.scald_tool.proofs.verifier.VerifierProgram.reply.Goals as goal

pub returns-in-Verify-clause-is : goal.returns-in-Verify-clause-is
returns-in-Verify-clause-is c =
    by_form c.args.command (Verify c.in-Verify.mode c.in-Verify.rounds) c.args.text.now _
    c.in-Verify.is c.reply_to.ensures.is

pub returns-in-Verify-clause-promised : goal.returns-in-Verify-clause-promised
returns-in-Verify-clause-promised c =
    verify_promised c.args.command c.in-Verify.mode c.in-Verify.rounds c.args.text.now _
    c.in-Verify.is c.reply_to.ensures.is c.reply_to.ensures.faultless

pub returns-in-Format-clause-is : goal.returns-in-Format-clause-is
returns-in-Format-clause-is c =
    by_form c.args.command Format c.args.text.now _ c.in-Format.is c.format.ensures

pub returns-in-Format-clause-promised : goal.returns-in-Format-clause-promised
returns-in-Format-clause-promised c =
    form_promised c.args.command Format c.args.text.now _ c.in-Format.is refl c.format.ensures

pub returns-in-Upgrade-clause-is : goal.returns-in-Upgrade-clause-is
returns-in-Upgrade-clause-is c =
    by_form c.args.command Upgrade c.args.text.now _ c.in-Upgrade.is c.upgrade_text.ensures

pub returns-in-Upgrade-clause-promised : goal.returns-in-Upgrade-clause-promised
returns-in-Upgrade-clause-promised c =
    form_promised c.args.command Upgrade c.args.text.now _ c.in-Upgrade.is refl
    c.upgrade_text.ensures

pub returns-in-Bench-clause-is : goal.returns-in-Bench-clause-is
returns-in-Bench-clause-is c =
    by_form c.args.command (Bench c.in-Bench.sections) c.args.text.now _ c.in-Bench.is
    c.bench.ensures

pub returns-in-Bench-clause-promised : goal.returns-in-Bench-clause-promised
returns-in-Bench-clause-promised c =
    form_promised c.args.command (Bench c.in-Bench.sections) c.args.text.now _ c.in-Bench.is refl
    c.bench.ensures
