use Rattle.std.proofs.Common.{arith, length, ◌≤◌}
use Rattle.std.proofs.lemmas.List.{length-take}
use Rattle.trace_sim.proofs.Steps.{number_small}
use Rattle.trace_sim.proofs.gates.selected.Goals as goal

pub overflow_add-selects : goal.overflow_add-selects
overflow_add-selects c =
    let l : length c.front.result.now ≤ 3 = rw c.front.ensures (omega (arith, length-take c.args.selects c.args.bits.now, c.requires)) in
    let s = number_small c.front.result.now l in
    omega (arith, s, c.number.ensures, c.requires)
