use Rattle.std.proofs.Common.{length}
use Rattle.fixpoint_engine.specs.Waves.{waves_of}
use Rattle.drawing_notes.proofs.ByClock.{launched_is}
use Rattle.drawing_notes.proofs.common.search.Goals as goal

pub returns-clause-is : goal.returns-clause-is
returns-clause-is g c = λ looped sees.
    let v = c.args.view.now in
    launched_is v.circuit.now looped (waves_of v.waves.now) v.within.now c.args.clock (length c.args.found.now.marks) c.clear.new.self c.add_launched.new.found
    c.follow_open.new.self.marks sees.nets c.clear.ensures.marks c.in_ok-add_launched.ensures c.in_ok-follow_open.ensures.is
