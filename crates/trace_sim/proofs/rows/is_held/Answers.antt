use Rattle.std.proofs.Common.{◌+◌, ◌≤◌, ℕ, sym, subst, arith}
use Rattle.element_kinds.specs.Kinds.{form_of}
use Rattle.trace_sim.specs.Choice.{chosen}
use Rattle.trace_sim.specs.Making.{seen}
use Rattle.trace_sim.proofs.Steps.{row_bounded}
use Rattle.trace_sim.proofs.rows.is_held.Goals as goal

pub overflow_add-result : goal.overflow_add-result
overflow_add-result c =
    let short : c.in_ok-row.row ≤ c.args.t + 1 = subst (λ (x : ℕ). x ≤ c.args.t + 1) (sym c.in_ok-row.ensures)
    (row_bounded (form_of c.args.i.now.kind) (seen c.args.bits.now) c.args.i.now (chosen c.args.delays c.args.wires.now) (c.args.t + 1)) in
    omega (arith, short, c.requires.short, c.near-near.ensures.small)
