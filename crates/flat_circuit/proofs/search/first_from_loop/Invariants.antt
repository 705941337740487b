use Rattle.std.proofs.Common.{ℕ, ◌<◌, ◌≢◌}
use Rattle.flat_circuit.specs.Search.{AreMarks, HasNoOpen, mark_at}
use Rattle.flat_circuit.specs.declared.search.Mark.TheVariants.{Fresh}
use Rattle.flat_circuit.proofs.search.first_from_loop.Given as goal

abbrev pub invariant-loop-root : goal.invariant-loop-root
invariant-loop-root l = record {
  marks : AreMarks l.nodes l.marks.items;
  none : HasNoOpen l.marks.items;
  seen : (i : ℕ) → i < l.root → mark_at l.marks.items i ≢ Fresh;
}
