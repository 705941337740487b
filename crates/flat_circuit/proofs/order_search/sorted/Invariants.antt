use Rattle.std.proofs.Common.{ℕ, ◌<◌, ◌≢◌}
use Rattle.flat_circuit.specs.Sorted.{AreMarks, HasNoOpen, mark_at}
use Rattle.flat_circuit.specs.declared.order_search.Mark.TheVariants.{Fresh}
use Rattle.flat_circuit.proofs.order_search.sorted.Given as goal

abbrev pub invariant-loop-root : goal.invariant-loop-root
invariant-loop-root l = record {
  marks : AreMarks l.nodes l.marks.items l.order.items;
  none : HasNoOpen l.marks.items;
  seen : (i : ℕ) → i < l.root → mark_at l.marks.items i ≢ Fresh;
}
