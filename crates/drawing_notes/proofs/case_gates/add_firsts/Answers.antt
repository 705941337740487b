use Rattle.std.proofs.Common.{◌∙◌, None, refl, arith, ap}
use Rattle.fixpoint_engine.specs.Settled.{marked_in}
use Rattle.fixpoint_engine.specs.Waves.{waves_of}
use Rattle.drawing_notes.specs.Unmarked.{earlier}
use Rattle.drawing_notes.proofs.Firsts.{firsts_case, with_first}
use Rattle.drawing_notes.proofs.Stepped.{stepped_put, stepped_start}
use Rattle.drawing_notes.proofs.case_gates.add_firsts.Goals as goal

pub loop-number-init : goal.loop-number-init
loop-number-init g c =
    stepped_start None (with_first c.args.c.now (marked_in c.args.clocks.now) (marked_in c.args.timed.now) (waves_of c.args.waves.now)) c.args.firsts.now

pub loop-number-preserved : goal.loop-number-preserved
loop-number-preserved g c =
    stepped_put None (with_first c.args.c.now (marked_in c.args.clocks.now) (marked_in c.args.timed.now) (waves_of c.args.waves.now)) c.args.firsts.now
    c.loop-number.number c.loop-number.firsts _ c.earlier.result
    (omega (arith, c.requires.long, c.loop-number-test.true, c.loop-number.auto.number-end, c.instance_count-number-end.ensures))
    (c.earlier.ensures ∙ ap (earlier _) c.first_in-found.ensures) refl c.loop-number.invariant

pub returns-clause-long : goal.returns-clause-long
returns-clause-long g c = c.loop-number.invariant.long ∙ c.requires.long

pub returns-clause-firsts : goal.returns-clause-firsts
returns-clause-firsts g c = λ cases one waves before.
    firsts_case c.args.c.now (marked_in c.args.clocks.now) (marked_in c.args.timed.now) cases one (waves_of c.args.waves.now) c.args.firsts.now c.loop-number.firsts
    c.loop-number.number waves (omega (arith, c.loop-number-test.false, c.loop-number.auto.number-end, c.instance_count-number-end.ensures)) c.loop-number.invariant before
