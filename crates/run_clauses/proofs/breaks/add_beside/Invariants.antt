use Rattle.std.proofs.Common.{◌≡◌, ℕ, ◌<◌, false}
use Rattle.run_clauses.specs.Clauses.{clause_holds}
use Rattle.run_clauses.specs.Meaning.{Bits, IsNotBeside}
use Rattle.run_clauses.proofs.breaks.add_beside.Given as goal

abbrev pub invariant-loop-beside : goal.invariant-loop-beside
invariant-loop-beside l =
    (bits : Bits) → clause_holds bits l.some.items ≡ false →
    (p : ℕ) → p < l.beside → IsNotBeside l.marked p bits
