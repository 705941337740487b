-- What clauses say where each variable stands for a fact, such as one about a run.
use Rattle.std.specs.Prelude.{ℕ, List, [], ◌∷◌, ◌⊎◌, MatchBool}
use Rattle.std.specs.List.{All}
use Rattle.clause_check.specs.declared.literal.Literal.{Literal}

-- A literal says that its variable's fact holds, or that it does not.
abbrev pub Says : (ℕ → Type 0) → Literal → Type 0
Says means l = MatchBool l.value (means l.variable) (¬ means l.variable)

-- A clause says that one of its literals is so.
abbrev pub OneSays : (ℕ → Type 0) → List Literal → Type 0
OneSays means [] = ⊥
OneSays means (l ∷ ls) = Says means l ⊎ OneSays means ls

-- What every clause says is so.
abbrev pub AllSay : (ℕ → Type 0) → List (List Literal) → Type 0
AllSay means clauses = All (OneSays means) clauses
