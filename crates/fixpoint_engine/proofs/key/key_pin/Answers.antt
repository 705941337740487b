use Rattle.std.proofs.Common.{◌∙◌}
use Rattle.pin_waves.specs.Pin.{pin_wave as wave_behind}
use Rattle.fixpoint_engine.proofs.key.key_pin.Goals as goal

pub returns-clause-shows : goal.returns-clause-shows
returns-clause-shows c table are =
    λ i. wave_behind (c.number_at.ensures.is c.args.c.now.header table are i) ((c.wire.view_is ∙ c.wire_behind-wire.ensures) i) c.args.pin.inverted
