-- Clauses, and when no assignment makes all of them hold. An assignment gives each variable a bit.
use Rattle.std.specs.Prelude.{◌≡◌, ℕ, Bool, true, false, not, List, if◌then◌else◌}
use Rattle.std.specs.List.{list_any, list_all}
use Rattle.clause_check.specs.declared.literal.Literal.{Literal}

-- A literal holds where its variable has its bit.
abbrev pub literal_holds : (ℕ → Bool) → Literal → Bool
literal_holds bits l = if l.value then bits l.variable else not (bits l.variable)

-- A clause holds where one of its literals does.
abbrev pub clause_holds : (ℕ → Bool) → List Literal → Bool
clause_holds bits clause = list_any (literal_holds bits) clause

abbrev pub all_hold : (ℕ → Bool) → List (List Literal) → Bool
all_hold bits clauses = list_all (clause_holds bits) clauses

-- Clauses are refuted if no assignment makes all of them hold.
abbrev pub Refuted : List (List Literal) → Type 0
Refuted clauses = (bits : ℕ → Bool) → all_hold bits clauses ≡ false

-- A clause follows from others if it holds wherever they do.
abbrev pub Follows : List (List Literal) → List Literal → Type 0
Follows clauses clause = (bits : ℕ → Bool) → all_hold bits clauses ≡ true →
    clause_holds bits clause ≡ true

-- Clauses imply others if these hold wherever they do.
abbrev pub Implies : List (List Literal) → List (List Literal) → Type 0
Implies clauses others = (bits : ℕ → Bool) → all_hold bits clauses ≡ true →
    all_hold bits others ≡ true
