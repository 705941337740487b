use Rattle.std.proofs.Common.{ℕ, ◌<◌, ◌≢◌}
use Rattle.flat_circuit.specs.Search.{mark_at}
use Rattle.flat_circuit.specs.declared.search.Mark.TheVariants.{Looped}
use Rattle.flat_circuit.proofs.search.first_looped.Given as goal

abbrev pub invariant-loop-i : goal.invariant-loop-i
invariant-loop-i l = (i : ℕ) → i < l.i → mark_at l.marks i ≢ Looped
