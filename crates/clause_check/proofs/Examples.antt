-- The definitions on small clauses, worked out on paper.
use Rattle.std.proofs.Common.{◌≡◌, ℕ, Bool, true, false, not, ◌&&◌, ◌||◌, ◌==◌, List, [], ◌∷◌, inl, inr, refl}
use Rattle.clause_check.specs.declared.literal.Literal.{Literal}
use Rattle.clause_check.specs.declared.given.Given.{Given}
use Rattle.clause_check.specs.Clauses.{literal_holds, clause_holds, all_hold, Refuted, Follows, Implies}
use Rattle.clause_check.specs.Meaning.{Says, OneSays}
use Rattle.clause_check.specs.Propagation.{falsified}
use Rattle.clause_check.specs.Rows.{row_at}

-- variables 0 and 1, and their negations
abbrev a : Literal
a = record { variable = 0; value = true }

abbrev b : Literal
b = record { variable = 1; value = true }

abbrev not_a : Literal
not_a = record { variable = 0; value = false }

abbrev not_b : Literal
not_b = record { variable = 1; value = false }

-- a is 1, and b is 0
abbrev only_a : ℕ → Bool
only_a x = x == 0

a_holds : literal_holds only_a a ≡ true
a_holds = refl

b_does_not : literal_holds only_a b ≡ false
b_does_not = refl

not_a_does_not : literal_holds only_a not_a ≡ false
not_a_does_not = refl

not_b_holds : literal_holds only_a not_b ≡ true
not_b_holds = refl

one_is_enough : clause_holds only_a (not_a ∷ not_b ∷ []) ≡ true
one_is_enough = refl

none_is_not : clause_holds only_a (not_a ∷ b ∷ []) ≡ false
none_is_not = refl

no_literal_holds : clause_holds only_a [] ≡ false
no_literal_holds = refl

no_clause_fails : all_hold only_a [] ≡ true
no_clause_fails = refl

both_hold : all_hold only_a ((a ∷ []) ∷ (b ∷ not_b ∷ []) ∷ []) ≡ true
both_hold = refl

the_second_fails : all_hold only_a ((a ∷ []) ∷ (b ∷ not_a ∷ []) ∷ []) ≡ false
the_second_fails = refl

-- a fact and its contrary
contrary : (bit : Bool) → ((bit || false) && ((not bit || false) && true)) ≡ false
contrary true = refl
contrary false = refl

contrary_is_refuted : Refuted ((a ∷ []) ∷ (not_a ∷ []) ∷ [])
contrary_is_refuted bits = contrary (bits 0)

the_empty_clause_is_refuted : Refuted ([] ∷ [])
the_empty_clause_is_refuted bits = refl

no_clauses_are_not : Refuted [] → ⊥
no_clauses_are_not refuted = cc (refuted only_a)

a_or_b_is_not : Refuted ((a ∷ b ∷ []) ∷ []) → ⊥
a_or_b_is_not refuted = cc (refuted only_a)

-- a or b, and not b: so a, and not b or else
chosen : (x y : Bool) → ((x || (y || false)) && ((not y || false) && true)) ≡ true →
    (x || false) ≡ true
chosen true y h = refl
chosen false true h = h
chosen false false h = h

a_follows : Follows ((a ∷ b ∷ []) ∷ (not_b ∷ []) ∷ []) (a ∷ [])
a_follows bits h = chosen (bits 0) (bits 1) h

b_does_not_follow : Follows ((a ∷ b ∷ []) ∷ (not_b ∷ []) ∷ []) (b ∷ []) → ⊥
b_does_not_follow follows = cc (follows only_a refl)

b_is_not_implied : Implies ((a ∷ b ∷ []) ∷ []) ((b ∷ []) ∷ []) → ⊥
b_is_not_implied implied = cc (implied only_a refl)

-- A variable stands for the fact that its number is 0.
abbrev is_zero : ℕ → Type 0
is_zero x = x ≡ 0

a_says : Says is_zero a
a_says = refl

the_second_says : OneSays is_zero (b ∷ a ∷ [])
the_second_says = inr (inl refl)

not_b_says : OneSays is_zero (not_b ∷ [])
not_b_says = inl (λ e. cc e)

b_says_not : OneSays is_zero (b ∷ []) → ⊥
b_says_not (inl e) = cc e
b_says_not (inr e) = e

two_of_three : row_at {T = ℕ} (3 ∷ 4 ∷ 5 ∷ []) (record { start = 1; end = 3 }) ≡ 4 ∷ 5 ∷ []
two_of_three = refl

no_items : row_at {T = ℕ} (3 ∷ 4 ∷ 5 ∷ []) (record { start = 2; end = 2 }) ≡ []
no_items = refl

-- In step 1 a was given 1, and in step 2 b was given 0.
abbrev two_given : List Given
two_given = record { step = 1; value = true } ∷ record { step = 2; value = false } ∷ []

b_is_false_in_2 : falsified two_given 2 b ≡ true
b_is_false_in_2 = refl

not_b_is_not : falsified two_given 2 not_b ≡ false
not_b_is_not = refl

not_a_is_not_in_2 : falsified two_given 2 not_a ≡ false
not_a_is_not_in_2 = refl

past_the_table : falsified two_given 2 (record { variable = 2; value = true }) ≡ false
past_the_table = refl
