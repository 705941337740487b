use Rattle.std.proofs.Common.{refl}
use Rattle.std.proofs.lemmas.Result.{on_ok_weaker}
use Rattle.fixpoint_engine.specs.Settled.{marked_in}
use Rattle.fault_decider.specs.Lines.{shown_text}
use Rattle.fault_decider.proofs.lines.add_shown.Goals as goal

pub returns : goal.returns
returns c =
    let cone = marked_in c.in_ok-cone.cone in
    on_ok_weaker c.add_showing.result
    (λ added. (
      shown_text c.args.c.now c.args.values.now c.args.x cone c.args.showing.now,
      record { cone = cone; is = c.in_ok-cone.ensures; text = refl },
      added,
    ))
    c.add_showing.ensures
