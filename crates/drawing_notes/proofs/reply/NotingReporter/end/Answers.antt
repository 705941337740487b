use Rattle.std.proofs.Common.{subst}
use Rattle.std.proofs.lemmas.Result.{IfOk-weaker}
use Rattle.drawing_notes.specs.declared.reply.Kept.{Kept}
use Rattle.drawing_notes.specs.Report.{AreNotes}
use Rattle.drawing_notes.proofs.reply.NotingReporter.end.Goals as goal

pub returns : goal.returns
returns c =
    IfOk-weaker c.report.result _ _
    (λ reply are asked kept base cases holds.
    subst (λ (k : Kept). AreNotes k c.args.circuit.now base cases reply.outcome reply.bytes) holds.0
    (are base cases holds.1))
    c.report.ensures

pub report-requires : goal.report-requires
report-requires c = c.requires.1
