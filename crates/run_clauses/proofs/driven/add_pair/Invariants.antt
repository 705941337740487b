use Rattle.std.proofs.Common.{◌≡◌, ℕ, ◌-◌, ◌<◌, ◌≤◌, [], ◌∷◌, false, max, not}
use Rattle.std.specs.Prelude.{nat_lt}
use Rattle.run_clauses.specs.declared.fact.Fact.TheVariants.{Fall, Lasts, Own, Rise}
use Rattle.run_clauses.specs.Clauses.{clause_holds}
use Rattle.run_clauses.specs.Forms.{out_said, said}
use Rattle.run_clauses.specs.Meaning.{Adds, Bits, IsPair}
use Rattle.run_clauses.proofs.Pushing.{NoneHolds}
use Rattle.run_clauses.proofs.driven.add_pair.Given as goal

abbrev pub invariant-loop-tick : goal.invariant-loop-tick
invariant-loop-tick l = record {
  clauses : Adds (IsPair l.net l.rise l.fall) l.fn.formula l.formula;
  put : (bits : Bits) → clause_holds bits l.some.items ≡ false →
      NoneHolds bits
      (said (Lasts l.net.tick) false ∷ said (Rise l.net.instance l.rise) false
      ∷ said (Fall l.net.instance l.fall) false
      ∷ out_said l.net (not (nat_lt l.rise l.fall)) ∷ [])
      × ((u : ℕ) → u < l.tick → l.net.tick - max l.rise l.fall ≤ u →
      bits (Own l.net.instance u) ≡ not (nat_lt l.rise l.fall));
}
