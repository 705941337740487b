-- What holds of the assignments that make a lemma false while bits are given.
use Rattle.std.proofs.Common.{◌≡◌, ℕ, zero, suc, ◌<◌, ◌≤◌, Bool, true, false, not, ◌&&◌, ◌==◌, List, [], ◌∷◌, length, get_or, set, slice_get, Option, Some, None, All, ◌⊎◌, inl, inr, refl, ap, sym, arith, ◌∙◌, if◌then◌else◌}
use Rattle.std.proofs.lemmas.List.Elements.{All-weaker, All-set}
use Rattle.std.proofs.lemmas.List.Folds.{list_any_none, list_any_at}
use Rattle.std.proofs.lemmas.Option.{slice_get_within, get_or_from_slice_get}
use Rattle.std.proofs.lemmas.Bool.{false≢true, eqb-true, and_parts}
use Rattle.std.specs.Option.{option_map_or}
use mathlib.Core.Bool.{beq}
use Rattle.clause_check.specs.declared.literal.Literal.{Literal}
use Rattle.clause_check.specs.declared.given.Given.{Given}
use Rattle.clause_check.specs.declared.propagation.Rest.TheVariants.{Nothing, One}
use Rattle.clause_check.specs.Clauses.{literal_holds, clause_holds, all_hold, Follows}
use Rattle.clause_check.specs.Propagation.{falsified, Agrees, Leaves, Supposes}

-- an element after a write is the one that was written, or stood there before
changed : {X : Type 0} (xs : List X) (i k : ℕ) (a g : X) → slice_get (set xs i a) k ≡ Some g →
    ((k ≡ i) × (a ≡ g)) ⊎ (slice_get xs k ≡ Some g)
changed [] i k a g h = inr h
changed (x ∷ xs) zero zero a g h = inl (refl, cc)
changed (x ∷ xs) zero (suc k) a g h = inr h
changed (x ∷ xs) (suc i) zero a g h = inr h
changed (x ∷ xs) (suc i) (suc k) a g h =
    elim (changed xs i k a g h) [ inl w ↦ inl (ap suc w.0, w.1) | inr w ↦ inr w ]

-- A bit that the assignment has may be given.
pub agrees_given : (bits : ℕ → Bool) (given : List Given) (step x : ℕ) (value : Bool) →
    Agrees bits given step → bits x ≡ value →
    Agrees bits (set given x (record { step = step; value = value })) step
agrees_given bits given step x value agrees bit y g at same =
    elim (changed given x y (record { step = step; value = value }) g at) [
      | inl w ↦ cc (ap bits w.0, bit, ap (λ (h : Given). h.value) w.1)
      | inr w ↦ agrees y g w same
    ]

-- A bit that is given is of no later step.
pub steps_given : (given : List Given) (step x : ℕ) (value : Bool) →
    All (λ g. g.step ≤ step) given →
    All (λ g. g.step ≤ step) (set given x (record { step = step; value = value }))
steps_given given step x value h =
    All-set (λ g. g.step ≤ step) given x (record { step = step; value = value }) (omega arith) h

-- In a step that has given no bit, every assignment has those that were given.
pub agrees_fresh : (bits : ℕ → Bool) (given : List Given) (step : ℕ) →
    All (λ g. g.step < step) given → Agrees bits given step
agrees_fresh bits given step fresh x g at same =
    let here = fresh x g (slice_get_within given x g at) in
    let is = get_or_from_slice_get given x g g at in
    absurd (omega (arith, here, same, ap (λ (h : Given). h.step) is))

-- a variable with the other bit than the literal's
other_bit : (bit value own : Bool) → bit ≡ value → not (beq value own) ≡ true →
    (if own then bit else not bit) ≡ false
other_bit true true true e h = cc
other_bit true true false e h = refl
other_bit true false own e h = cc
other_bit false true own e h = cc
other_bit false false true e h = refl
other_bit false false false e h = cc

-- the bit that a literal asks for, where it holds and where it does not
own_bit : (bit own : Bool) → (if own then bit else not bit) ≡ true → bit ≡ own
own_bit true true h = refl
own_bit true false h = cc
own_bit false true h = cc
own_bit false false h = refl

not_own_bit : (bit own : Bool) → (if own then bit else not bit) ≡ false → bit ≡ not own
not_own_bit true true h = cc
not_own_bit true false h = refl
not_own_bit false true h = refl
not_own_bit false false h = cc

pub bit_of_literal : (bits : ℕ → Bool) (l : Literal) → literal_holds bits l ≡ true →
    bits l.variable ≡ l.value
bit_of_literal bits l h = own_bit (bits l.variable) l.value h

pub bit_of_negated : (bits : ℕ → Bool) (l : Literal) →
    literal_holds bits l ≡ false → bits l.variable ≡ not l.value
bit_of_negated bits l h = not_own_bit (bits l.variable) l.value h

-- A literal that is false by the bits given does not hold.
pub falsified_is_false : (bits : ℕ → Bool) (given : List Given) (step : ℕ) (l : Literal) →
    Agrees bits given step → falsified given step l ≡ true → literal_holds bits l ≡ false
falsified_is_false bits given step l agrees h = by_entry (slice_get given l.variable) refl h
  where
    by_entry : (o : Option Given) → slice_get given l.variable ≡ o →
        option_map_or (λ g. (g.step == step) && not (beq g.value l.value)) o false ≡ true →
        literal_holds bits l ≡ false
    by_entry None at e = absurd (false≢true e)
    by_entry (Some g) at e =
        let parts = and_parts (g.step == step) (not (beq g.value l.value)) e in
        other_bit (bits l.variable) g.value l.value
        (agrees l.variable g at (eqb-true g.step step parts.0)) parts.1

-- A clause whose literals are all false does not hold.
pub none_left : (bits : ℕ → Bool) (given : List Given) (step : ℕ) (clause : List Literal) →
    Agrees bits given step → Leaves given step clause Nothing → clause_holds bits clause ≡ false
none_left bits given step clause agrees h =
    list_any_none (literal_holds bits) clause
    (All-weaker (λ l. falsified given step l ≡ true) (λ l. literal_holds bits l ≡ false)
    (λ l false_here. falsified_is_false bits given step l agrees false_here) clause h)

-- Where a clause holds, so does the one literal that is left.
pub one_left : (bits : ℕ → Bool) (given : List Given) (step : ℕ) (clause : List Literal)
    (left : Literal) →
    Agrees bits given step → Leaves given step clause (One left) → clause_holds bits clause ≡ true →
    literal_holds bits left ≡ true
one_left bits given step clause left agrees h holds = by_left (literal_holds bits left) refl
  where
    each : literal_holds bits left ≡ false → (l : Literal) → (b : Bool) →
        falsified given step l ≡ b →
        (falsified given step l ≡ false → l ≡ left) → literal_holds bits l ≡ false
    each left_false l true f is = falsified_is_false bits given step l agrees f
    each left_false l false f is = ap (literal_holds bits) (is f) ∙ left_false

    by_left : (b : Bool) → literal_holds bits left ≡ b → literal_holds bits left ≡ true
    by_left true e = e
    by_left false e =
        let none = list_any_none (literal_holds bits) clause
        (All-weaker (λ l. falsified given step l ≡ false → l ≡ left)
        (λ l. literal_holds bits l ≡ false)
        (λ l is. each e l (falsified given step l) refl is) clause h) in
        cc (none, holds)

-- each literal of a clause that does not hold
pub literal_of_false : (bits : ℕ → Bool) (clause : List Literal) (i : ℕ) (d : Literal) →
    i < length clause → clause_holds bits clause ≡ false →
    literal_holds bits (get_or clause i d) ≡ false
literal_of_false bits clause i d within h = by_value (literal_holds bits (get_or clause i d)) refl
  where
    by_value : (b : Bool) → literal_holds bits (get_or clause i d) ≡ b →
        literal_holds bits (get_or clause i d) ≡ false
    by_value false e = e
    by_value true e =
        let some = list_any_at (literal_holds bits) clause i d within e in
        cc (some, h)

-- each clause of some that all hold
pub clause_of_held : (bits : ℕ → Bool) (clauses : List (List Literal)) (i : ℕ)
    (clause : List Literal) →
    slice_get clauses i ≡ Some clause → all_hold bits clauses ≡ true →
    clause_holds bits clause ≡ true
clause_of_held bits [] i clause at h = cc
clause_of_held bits (c ∷ cs) zero clause at h =
    let first = (and_parts (clause_holds bits c) (all_hold bits cs) h).0 in
    let same : c ≡ clause = cc in
    ap (clause_holds bits) (sym same) ∙ first
clause_of_held bits (c ∷ cs) (suc i) clause at h =
    clause_of_held bits cs i clause at (and_parts (clause_holds bits c) (all_hold bits cs) h).1

-- The other bit than that of the lemma's literal is given.
pub suppose_literal : (clauses : List (List Literal)) (lemma : List Literal) (given : List Given)
    (step i : ℕ)
    (d l : Literal) → i < length lemma →
    l ≡ record { variable = (get_or lemma i d).variable; value = not (get_or lemma i d).value } →
    Supposes clauses lemma given step →
    Supposes clauses lemma (set given l.variable (record { step = step; value = l.value })) step
unfolding Supposes
suppose_literal clauses lemma given step i d l within negated supposes bits hold lemma_false =
    let does_not = literal_of_false bits lemma i d within lemma_false in
    let bit = bit_of_negated bits (get_or lemma i d) does_not in
    let variable = ap (λ (m : Literal). m.variable) negated in
    let value = ap (λ (m : Literal). m.value) negated in
    agrees_given bits given step l.variable l.value (supposes bits hold lemma_false)
    (ap bits variable ∙ bit ∙ sym value)

-- The bit of the literal that is left of a clause is given.
pub suppose_unit : (clauses : List (List Literal)) (lemma : List Literal) (given : List Given)
    (step i : ℕ)
    (clause : List Literal) (left : Literal) → slice_get clauses i ≡ Some clause →
    Leaves given step clause (One left) → Supposes clauses lemma given step →
    Supposes clauses lemma (set given left.variable (record { step = step; value = left.value }))
    step
unfolding Supposes
suppose_unit clauses lemma given step i clause left at leaves supposes bits hold lemma_false =
    let agrees = supposes bits hold lemma_false in
    let holds = clause_of_held bits clauses i clause at hold in
    agrees_given bits given step left.variable left.value agrees
    (bit_of_literal bits left (one_left bits given step clause left agrees leaves holds))

-- Nothing is left of a clause: the lemma follows.
pub follows_at_conflict : (clauses : List (List Literal)) (lemma : List Literal)
    (given : List Given) (step i : ℕ)
    (clause : List Literal) → slice_get clauses i ≡ Some clause → Leaves given step clause Nothing →
    Supposes clauses lemma given step → Follows clauses lemma
unfolding Supposes
follows_at_conflict clauses lemma given step i clause at leaves supposes bits hold =
    by_value (clause_holds bits lemma) refl
  where
    by_value : (b : Bool) → clause_holds bits lemma ≡ b → clause_holds bits lemma ≡ true
    by_value true e = e
    by_value false e =
        let none = none_left bits given step clause (supposes bits hold e) leaves in
        cc (none, clause_of_held bits clauses i clause at hold)

-- Before a bit is given, every assignment has those that were given.
pub suppose_nothing : (clauses : List (List Literal)) (lemma : List Literal) (given : List Given)
    (step : ℕ) →
    All (λ g. g.step < step) given → Supposes clauses lemma given step
unfolding Supposes
suppose_nothing clauses lemma given step fresh bits hold lemma_false =
    agrees_fresh bits given step fresh

-- A supposition holds among more clauses.
pub suppose_among : (clauses : List (List Literal)) (lemma : List Literal) (given : List Given)
    (step : ℕ) →
    Supposes [] lemma given step → Supposes clauses lemma given step
unfolding Supposes
suppose_among clauses lemma given step supposes bits hold lemma_false =
    supposes bits refl lemma_false
