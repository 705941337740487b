use Rattle.std.proofs.Common.{length, arith}
use Rattle.drawing_omissions.specs.CaseNotes.{same_in}
use Rattle.drawing_omissions.proofs.Adding.{adds_number, adds_numbers}
use Rattle.drawing_omissions.proofs.case_notes.add_sames.Goals as goal

pub loop-place-preserved : goal.loop-place-preserved
loop-place-preserved c =
    adds_number (same_in c.args.firsts.now) c.loop-place.place c.args.notes.now c.loop-place.notes c.add_same_to.new.notes
    c.loop-place.invariant c.in_ok-add_same_to.ensures

pub returns : goal.returns
returns c =
    adds_numbers (same_in c.args.firsts.now) c.loop-place.place (length c.args.firsts.now) c.args.notes.now c.loop-place.notes
    (omega (arith, c.loop-place-test.false, c.loop-place.auto.place-end)) c.loop-place.invariant
