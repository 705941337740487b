use Rattle.fixpoint_engine.specs.Waves.{waves_of}
use Rattle.point_check.proofs.Again.{kept_is}
use Rattle.point_check.proofs.last_check.LastCheck.keep.Goals as goal

pub invariant_of-t-26 : goal.invariant_of-t-26
invariant_of-t-26 g c =
    let clock = c.in-Some.clock in
    let input = c.in-Some-2.input in
    record {
      is = λ k. kept_is c.args.c.now (waves_of c.args.waves.now) c.args.asked.clock c.args.asked.input clock.wave input.wave
          clock.wire input.wire clock.inverted input.inverted c.args.found
          (rw c.in-Some.is at c.in_ok-clock.ensures) (rw c.in-Some-2.is at c.in_ok-input.ensures)
          c.args.asked.kind c.args.asked.instance c.args.asked.limits c.requires.found k;
    }
