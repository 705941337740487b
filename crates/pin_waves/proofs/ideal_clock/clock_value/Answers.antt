use Rattle.std.proofs.Common.{◌∙◌}
use Rattle.pin_waves.proofs.CodeSlots.{clock_slot}
use Rattle.pin_waves.proofs.ideal_clock.clock_value.Goals as goal

pub returns : goal.returns
returns c =
    c.step.ensures
    ∙ clock_slot c.args.h.now c.args.clock.now c.period-period.result c.args.slot c.ideal-before.result c.ideal.result
    c.period-period.ensures.is c.ideal-before.ensures c.ideal.ensures
