use Rattle.std.proofs.Common.{◌≡◌, List, [], drop, sym, ap, ◌∙◌, arith, slice_index_or}
use Rattle.std.proofs.lemmas.List.{drop_all}
use Rattle.flat_circuit.specs.declared.case.CaseValue.{CaseValue}
use Rattle.flat_circuit.specs.Alike.{value_after, value_in}
use Rattle.flat_circuit.specs.Table.{said}
use Rattle.flat_circuit.proofs.Values.{one_later}
use Rattle.flat_circuit.proofs.case_values.say_all.Goals as goal

pub loop-value-init : goal.loop-value-init
loop-value-init c i below = ap (λ o. value_after o c.args.case.now i) (c.requires i below)

pub loop-value-preserved : goal.loop-value-preserved
loop-value-preserved c i below =
    one_later c.args.case.now c.loop-value.value-index i _ (said (slice_index_or c.loop-value.table i 0)) (said (slice_index_or c.say.new.table i 0))
    (value_in c.args.case.now i) c.loop-value-test.true (c.say.ensures i below) (c.loop-value.invariant i below)

pub returns : goal.returns
returns c i below =
    let none : drop c.loop-value.value-index c.args.case.now ≡ [] = drop_all c.loop-value.value-index c.args.case.now (omega arith) in
    sym (ap (λ (vs : List CaseValue). value_after (said (slice_index_or c.loop-value.table i 0)) vs i) none) ∙ c.loop-value.invariant i below
