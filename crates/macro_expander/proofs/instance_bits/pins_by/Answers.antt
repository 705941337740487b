use Rattle.std.proofs.Common.{◌≡◌, Bool, sym, subst}
use Rattle.std.specs.Prelude.{IfOk}
use Rattle.macro_expander.specs.Numbered.{refs_by}
use Rattle.macro_expander.proofs.instance_bits.pins_by.Goals as goal

pub returns-then-each_bit : goal.returns-then-each_bit
returns-then-each_bit c =
    subst (λ (each_bit : Bool). IfOk c.all_pins.result (λ pins.
    pins ≡ refs_by each_bit c.args.ins.now c.args.k)) (sym c.if-each_bit.true) c.all_pins.ensures

pub returns-else-each_bit : goal.returns-else-each_bit
returns-else-each_bit c =
    subst (λ (each_bit : Bool). IfOk c.column.result (λ pins.
    pins ≡ refs_by each_bit c.args.ins.now c.args.k)) (sym c.if-each_bit.false) c.column.ensures
