use Rattle.std.proofs.Common.{◌≤◌, ℕ, sym, subst, arith}
use Rattle.element_kinds.specs.Kinds.{form_of}
use Rattle.trace_sim.specs.Choice.{chosen}
use Rattle.trace_sim.specs.Making.{seen}
use Rattle.trace_sim.proofs.Steps.{row_bounded}
use Rattle.trace_sim.proofs.rows.row_at.Goals as goal

pub overflow_add-result : goal.overflow_add-result
overflow_add-result c =
    let short : c.args.before ≤ c.args.t = subst (λ (x : ℕ). x ≤ c.args.t) (sym c.requires.before)
    (row_bounded (form_of c.args.i.now.kind) (seen c.args.bits.now) c.args.i.now (chosen c.args.delays c.args.wires.now) c.args.t) in
    omega (arith, short, c.requires.short)
