-- What is known while a lemma is supposed false: the bits that variables were given in its step.
use Rattle.std.specs.Prelude.{◌≡◌, ℕ, Bool, true, false, not, ◌&&◌, ◌==◌, List, slice_get, Some, ⊤}
use Rattle.std.specs.Option.{option_map_or}
use Rattle.std.specs.List.{All}
use mathlib.Core.Bool.{beq}
use Rattle.clause_check.specs.declared.literal.Literal.{Literal}
use Rattle.clause_check.specs.declared.given.Given.{Given}
use Rattle.clause_check.specs.declared.propagation.Rest.{Rest}
use Rattle.clause_check.specs.declared.propagation.Rest.TheVariants.{Nothing, One, More}
use Rattle.clause_check.specs.Clauses.{clause_holds, all_hold}

-- In this step the literal's variable was given the other bit.
abbrev pub falsified : List Given → ℕ → Literal → Bool
falsified given step l =
    option_map_or (λ g. (g.step == step) && not (beq g.value l.value))
    (slice_get given l.variable) false

-- The assignment has each bit that was given in this step.
abbrev pub Agrees : (ℕ → Bool) → List Given → ℕ → Type 0
Agrees bits given step =
    (x : ℕ) (g : Given) → slice_get given x ≡ Some g → g.step ≡ step → bits x ≡ g.value

-- What is left of the clause when the false literals are taken away.
abbrev pub Leaves : List Given → ℕ → List Literal → Rest → Type 0
Leaves given step clause Nothing = All (λ l. falsified given step l ≡ true) clause
Leaves given step clause (One left) = All (λ l. falsified given step l ≡ false → l ≡ left) clause
Leaves given step clause More = ⊤

-- Each assignment that makes the clauses hold and the lemma not has the bits that were given.
unfoldable pub Supposes : List (List Literal) → List Literal → List Given → ℕ → Type 0
Supposes clauses lemma given step =
    (bits : ℕ → Bool) → all_hold bits clauses ≡ true → clause_holds bits lemma ≡ false →
    Agrees bits given step
