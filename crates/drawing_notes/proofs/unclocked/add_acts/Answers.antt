use Rattle.std.proofs.Common.{false, refl, arith}
use Rattle.fixpoint_engine.specs.Waves.{waves_of}
use Rattle.drawing_notes.proofs.Acting.{acts_all, acts_too}
use Rattle.drawing_notes.proofs.Stepped.{stepped_put, stepped_start}
use Rattle.drawing_notes.proofs.unclocked.add_acts.Goals as goal

pub loop-number-init : goal.loop-number-init
loop-number-init g c = stepped_start false (acts_too c.args.c.now (waves_of c.args.waves.now)) c.args.acts.now

pub loop-number-preserved : goal.loop-number-preserved
loop-number-preserved g c =
    stepped_put false (acts_too c.args.c.now (waves_of c.args.waves.now)) c.args.acts.now c.loop-number.number c.loop-number.acts _ c.in_ok-does.does
    (omega (arith, c.requires.long, c.loop-number-test.true, c.loop-number.auto.number-end, c.instance_count-number-end.ensures)) c.in_ok-does.ensures refl c.loop-number.invariant

pub returns-clause-acts : goal.returns-clause-acts
returns-clause-acts g c = λ cases one waves before.
    acts_all c.args.c.now (waves_of c.args.waves.now) c.args.acts.now c.loop-number.number c.loop-number.acts cases one
    (omega (arith, c.loop-number-test.false, c.loop-number.auto.number-end, c.instance_count-number-end.ensures)) waves before c.loop-number.invariant
