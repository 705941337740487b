use Rattle.std.proofs.Common.{◌≡◌, Bool, subst}
use Rattle.std.specs.Prelude.{IfOk}
use Rattle.macro_expander.specs.Numbered.{refs_by}
use Rattle.macro_expander.proofs.instance_bits.pins.Goals as goal

pub returns : goal.returns
returns c =
    subst (λ (each_bit : Bool). IfOk c.pins_by.result (λ pins.
    pins ≡ refs_by each_bit c.args.ins.now c.args.k)) c.is_change.ensures c.pins_by.ensures
