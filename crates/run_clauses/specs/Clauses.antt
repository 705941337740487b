-- Clauses that speak of facts, and when they are refuted. A clause says that one of some facts
-- holds, or does not.
use Rattle.std.specs.Prelude.{◌≡◌, Bool, false, not, if◌then◌else◌, List}
use Rattle.std.specs.List.{list_all, list_any}
use Rattle.run_clauses.specs.declared.fact.Fact.{Fact}
use Rattle.run_clauses.specs.declared.fact.Said.{Said}

abbrev pub said_holds : (Fact → Bool) → Said → Bool
said_holds bits s = if s.holds then bits s.fact else not (bits s.fact)

abbrev pub clause_holds : (Fact → Bool) → List Said → Bool
clause_holds bits clause = list_any (said_holds bits) clause

abbrev pub all_hold : (Fact → Bool) → List (List Said) → Bool
all_hold bits clauses = list_all (clause_holds bits) clauses

-- Whatever bit each fact has, some clause does not hold.
abbrev pub AreRefuted : List (List Said) → Type 0
AreRefuted clauses = (bits : Fact → Bool) → all_hold bits clauses ≡ false
