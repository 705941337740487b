use Rattle.std.proofs.Common.{◌∙◌, arith}
use Rattle.macro_expander.proofs.places.named.Goals as goal

pub returns : goal.returns
returns g c = c.led.ensures ∙ (c.requires.many (omega arith)).first c.args.name.now
