use Rattle.std.proofs.Common.{◌≡◌, ◌<◌, Bool, length, arith, slice_get, subst}
use Rattle.drawing_omissions.specs.Lines.{Adds}
use Rattle.drawing_omissions.proofs.Adding.{adds_none, adds_number, adds_numbers}
use Rattle.drawing_notes.specs.Unclocked.{unclocked_at, unclocked_of}
use Rattle.drawing_notes.proofs.unclocked.add_unclocked.Goals as goal

pub loop-number-init : goal.loop-number-init
loop-number-init c = λ cases are. adds_none c.args.notes.now

pub loop-number-preserved : goal.loop-number-preserved
loop-number-preserved c = λ cases are.
    let circuit = c.args.c.now in
    let n = c.loop-number.number in
    let exists : n < length circuit.instances = omega (arith, c.loop-number-test.true, c.loop-number.auto.number-end, c.instance_count-number-end.ensures) in
    adds_number (unclocked_at circuit cases) n c.args.notes.now c.loop-number.notes c.add_unclocked_at.new.notes
    (c.loop-number.invariant cases are)
    (subst (λ (b : Bool). Adds c.loop-number.notes c.add_unclocked_at.new.notes (unclocked_of circuit n b (slice_get circuit.instances n)))
    (are n exists) c.in_ok-add_unclocked_at.ensures)

pub returns : goal.returns
returns c = λ cases are.
    let whole : c.loop-number.number ≡ length c.args.c.now.instances =
    omega (arith, c.loop-number-test.false, c.loop-number.auto.number-end, c.instance_count-number-end.ensures) in
    adds_numbers (unclocked_at c.args.c.now cases) c.loop-number.number (length c.args.c.now.instances) c.args.notes.now c.loop-number.notes whole
    (c.loop-number.invariant cases are)
