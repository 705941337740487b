use Rattle.std.proofs.Common.{◌≡◌, ℕ, ◌<◌, ◌≤◌, false}
use Rattle.run_clauses.specs.declared.fact.Fact.TheVariants.{First}
use Rattle.run_clauses.specs.Clauses.{clause_holds}
use Rattle.run_clauses.specs.Meaning.{Adds, Bits, IsFirstIn}
use Rattle.run_clauses.proofs.breaks.add_firsts.Given as goal

abbrev pub invariant-loop-tick : goal.invariant-loop-tick
invariant-loop-tick l = record {
  clauses : Adds (IsFirstIn l.fn.stretch) l.fn.formula l.formula;
  put : (bits : Bits) → clause_holds bits l.some.items ≡ false →
      (t : ℕ) → t < l.tick → l.fn.stretch.from ≤ t → bits (First t) ≡ false;
}
