use Rattle.std.proofs.Common.{◌≤◌, arith}
use Rattle.run_clauses.proofs.gates.add_choice.Goals as goal

pub loop-number-init : goal.loop-number-init
loop-number-init c bits is before = before

pub loop-number-preserved : goal.loop-number-preserved
loop-number-preserved c bits is before =
    let number = c.loop-number.number in
    let few : c.args.selects ≤ c.args.gate.pins = omega arith in
    c.in_ok-add_selected-2.ensures bits (is few number (omega arith))
    (c.in_ok-add_selected.ensures bits (is few number (omega arith))
    (c.loop-number.invariant bits is before))
