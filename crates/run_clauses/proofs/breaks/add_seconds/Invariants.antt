use Rattle.std.proofs.Common.{◌≡◌, ℕ, ◌<◌, ◌≤◌, true, false}
use Rattle.run_clauses.specs.declared.fact.Fact.TheVariants.{First, Second}
use Rattle.run_clauses.specs.Clauses.{clause_holds}
use Rattle.run_clauses.specs.Meaning.{Bits}
use Rattle.run_clauses.proofs.breaks.add_seconds.Given as goal

abbrev pub invariant-loop-tick : goal.invariant-loop-tick
invariant-loop-tick l =
    (bits : Bits) → clause_holds bits l.some.items ≡ false →
    (bits (First l.first) ≡ true)
    × ((t : ℕ) → t < l.tick → l.fn.stretch.from ≤ t → bits (Second t) ≡ false)
