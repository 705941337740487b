-- Clauses of facts, by numbers: a literal's variable is the place of its fact in a list.
use Rattle.std.specs.Prelude.{◌≡◌, ℕ, ◌<◌, List, map, length, ◌++◌, slice_index_or}
use Rattle.std.specs.List.{All}
use Rattle.clause_check.specs.declared.literal.Literal.{Literal}
use Rattle.run_clauses.specs.declared.fact.Fact.{Fact}
use Rattle.run_clauses.specs.declared.fact.Fact.TheVariants.{Lasts}
use Rattle.run_clauses.specs.declared.fact.Said.{Said}

abbrev pub fact_at : List Fact → ℕ → Fact
fact_at facts n = slice_index_or facts n (Lasts 0)

abbrev pub said_by : List Fact → Literal → Said
said_by facts l = record { fact = fact_at facts l.variable; holds = l.value }

abbrev pub clause_by : List Fact → List Literal → List Said
clause_by facts clause = map (said_by facts) clause

abbrev pub clauses_by : List Fact → List (List Literal) → List (List Said)
clauses_by facts clauses = map (clause_by facts) clauses

-- the literal's fact is in the list
abbrev pub Speaks : List Fact → Literal → Type 0
Speaks facts l = l.variable < length facts

abbrev pub SpeakWithin : List Fact → List (List Literal) → Type 0
SpeakWithin facts clauses = All (All (Speaks facts)) clauses

-- a list with more at its end
pub record Begins (old new : List Fact) : Type 0 where
  pub rest : List Fact
  pub is : new ≡ old ++ rest
