use Rattle.std.proofs.Common.{◌≡◌, ℕ, ◌<◌, false, not}
use Rattle.run_clauses.specs.Clauses.{clause_holds}
use Rattle.run_clauses.specs.Meaning.{Adds, Bits, IsAll, own_of, pin_of}
use Rattle.run_clauses.proofs.gates.add_all.Given as goal

abbrev pub invariant-loop-pin : goal.invariant-loop-pin
invariant-loop-pin l = record {
  clauses : Adds (IsAll l.gate l.bit) l.fn.formula l.formula;
  put : (bits : Bits) → clause_holds bits l.some.items ≡ false →
      (own_of l.gate bits ≡ not l.bit)
      × ((p : ℕ) → p < l.pin → pin_of l.gate bits p ≡ l.bit);
}
