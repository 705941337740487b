use Rattle.std.proofs.Common.{◌≡◌, ℕ, ◌+◌, ◌<◌, false, not}
use Rattle.run_clauses.specs.Clauses.{clause_holds}
use Rattle.run_clauses.specs.Meaning.{Bits, own_of, pin_of, selects_one}
use Rattle.run_clauses.proofs.gates.add_selected.Given as goal

abbrev pub invariant-loop-select : goal.invariant-loop-select
invariant-loop-select l =
    (bits : Bits) → clause_holds bits l.some.items ≡ false →
    (own_of l.gate bits ≡ l.bit) × (pin_of l.gate bits (l.selects + l.number) ≡ not l.bit)
    × ((s : ℕ) → s < l.select → pin_of l.gate bits s ≡ selects_one l.selects l.number s)
