use Rattle.std.proofs.Common.{◌≡◌, ℕ, List, ◌++◌, sym, ap, ◌∙◌, true, false, map}
use Rattle.std.proofs.lemmas.Result.{err_from_is_err_and}
use Rattle.macro_expander.specs.Library.{setting_in}
use Rattle.macro_expander.specs.Primitives.{inputs_fit}
use Rattle.macro_expander.specs.Numbered.{bits_in}
use Rattle.macro_expander.proofs.PrimitiveUses.{use_refused, use_cut, use_narrow, use_done, use_few, use_selects, use_fits, failed_so}
use Rattle.macro_expander.proofs.primitive_use.primitive_use.Goals as goal

pub returns-in_err-plan : goal.returns-in_err-plan
returns-in_err-plan c =
    let p = err_from_is_err_and c.from_residual.result c.from_residual.ensures.1 in
    rw (p.1, p.2) (use_refused c.args.expansion.now
    (setting_in c.args.library.now) c.args.kind c.args.scope.now c.args.statement.now
    c.in_err-plan.field-0.0 c.in_err-plan.ensures)

pub returns-in_err-wires : goal.returns-in_err-wires
returns-in_err-wires c =
    let p = err_from_is_err_and c.from_residual-in_err-wires.result c.from_residual-in_err-wires.ensures.1 in
    rw (p.1, p.2) (use_cut c.args.expansion.now
    (setting_in c.args.library.now) c.args.kind c.args.scope.now c.args.statement.now c.in_ok-plan.plan
    c.in_ok-plan.ensures c.in_err-wires.field-0.0 c.in_err-wires.ensures)

pub returns-then-not-inputs_fit : goal.returns-then-not-inputs_fit
returns-then-not-inputs_fit c =
    let narrow : inputs_fit c.args.kind c.width_of-width.result (map bits_in c.as_slice-3.result.now) ≡ false = sym c.inputs_fit.ensures ∙ c.if-not-inputs_fit.true in
    failed_so c.refused.result _ _ c.args.statement.now.place c.refused.ensures
    (use_narrow c.args.expansion.now (setting_in c.args.library.now) c.args.kind c.args.scope.now c.args.statement.now
    c.in_ok-plan.plan c.in_ok-plan.ensures c.all_wires.new.expansion c.in_ok-wires.wires c.in_ok-wires.ensures
    c.as_slice.result.now c.as_slice-2.result.now c.as_slice-3.result.now c.width_of-width.result c.as_slice.ensures c.as_slice-2.ensures c.as_slice-3.ensures c.width_of-width.ensures narrow)

pub put_in_pin_order-requires : goal.put_in_pin_order-requires
put_in_pin_order-requires c =
    use_selects c.args.expansion.now (setting_in c.args.library.now) c.args.kind c.args.scope.now c.args.statement.now
    c.in_ok-plan.plan c.in_ok-plan.ensures c.all_wires.new.expansion c.in_ok-wires.wires c.in_ok-wires.ensures
    c.as_slice.result.now c.as_slice-2.result.now c.as_slice-3.result.now c.width_of-width.result
    c.as_slice.ensures c.as_slice-2.ensures c.as_slice-3.ensures c.width_of-width.ensures
    c.requires.library.ticks

pub add_bits-requires-clause-fits : goal.add_bits-requires-clause-fits
add_bits-requires-clause-fits c = λ k below.
    use_fits c.args.expansion.now (setting_in c.args.library.now) c.args.kind c.args.scope.now c.args.statement.now
    c.in_ok-plan.plan c.in_ok-plan.ensures c.all_wires.new.expansion c.in_ok-wires.wires c.in_ok-wires.ensures
    c.as_slice.result.now c.as_slice-2.result.now c.as_slice-3.result.now c.width_of-width.result
    c.as_slice.ensures c.as_slice-2.ensures c.as_slice-3.ensures c.width_of-width.ensures
    k c.as_slice-5.result.now c.as_slice-6.result.now c.as_slice-7.result.now
    (c.as_slice-6.ensures ∙ c.put_in_pin_order.ensures) c.as_slice-7.ensures c.requires.library.ticks

pub add_bits-requires-clause-few : goal.add_bits-requires-clause-few
add_bits-requires-clause-few c =
    use_few c.args.expansion.now (setting_in c.args.library.now) c.args.kind c.args.scope.now c.args.statement.now
    c.in_ok-plan.plan c.in_ok-plan.ensures c.all_wires.new.expansion c.in_ok-wires.wires c.in_ok-wires.ensures
    c.as_slice.result.now c.as_slice-2.result.now c.as_slice-3.result.now c.width_of-width.result
    c.as_slice.ensures c.as_slice-2.ensures c.as_slice-3.ensures c.width_of-width.ensures

pub returns : goal.returns
returns c =
    let wide : inputs_fit c.args.kind c.width_of-width.result (map bits_in c.as_slice-3.result.now) ≡ true = sym c.inputs_fit.ensures ∙ c.if-not-inputs_fit.false in
    let scope = c.args.scope.now in
    let whole = ap (λ (label : List ℕ). scope.path ++ label ++ scope.suffix) c.as_slice-4.ensures in
    use_done c.args.expansion.now (setting_in c.args.library.now) c.args.kind c.args.scope.now c.args.statement.now
    c.in_ok-plan.plan c.in_ok-plan.ensures c.all_wires.new.expansion c.in_ok-wires.wires c.in_ok-wires.ensures
    c.as_slice.result.now c.as_slice-2.result.now c.as_slice-3.result.now c.width_of-width.result
    c.as_slice.ensures c.as_slice-2.ensures c.as_slice-3.ensures c.width_of-width.ensures
    c.add_bits.new.expansion c.add_bits.result c.as_slice-5.result.now c.as_slice-6.result.now
    c.as_slice-7.result.now (c.as_slice-5.ensures ∙ c.in_ok-path.ensures ∙ whole)
    (c.as_slice-6.ensures ∙ c.put_in_pin_order.ensures) c.as_slice-7.ensures wide c.add_bits.ensures
