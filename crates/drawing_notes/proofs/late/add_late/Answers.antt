use Rattle.std.proofs.Common.{◌≡◌, length, arith}
use Rattle.drawing_notes.specs.Arrivals.{arrival_at}
use Rattle.drawing_notes.specs.Late.{late_at}
use Rattle.drawing_omissions.proofs.Adding.{adds_none, adds_number, adds_numbers}
use Rattle.drawing_notes.proofs.late.add_late.Goals as goal

pub loop-number-init : goal.loop-number-init
loop-number-init c = adds_none c.args.notes.now

pub loop-number-preserved : goal.loop-number-preserved
loop-number-preserved c =
    adds_number (late_at c.args.c.now (arrival_at c.args.arrivals.now)) c.loop-number.number c.args.notes.now c.loop-number.notes c.add_late_at.new.notes
    c.loop-number.invariant c.in_ok-add_late_at.ensures

pub returns : goal.returns
returns c =
    let whole : c.loop-number.number ≡ length c.args.c.now.instances =
    omega (arith, c.loop-number-test.false, c.loop-number.auto.number-end, c.instance_count-number-end.ensures) in
    adds_numbers (late_at c.args.c.now (arrival_at c.args.arrivals.now)) c.loop-number.number (length c.args.c.now.instances) c.args.notes.now c.loop-number.notes whole
    c.loop-number.invariant
