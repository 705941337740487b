-- Clauses that hold, and clauses that are added to others.
use Rattle.std.specs.Prelude.{⊤, if◌then◌else◌}
use Rattle.std.proofs.Common.{◌≡◌, Bool, true, false, true≢false, not, List, [], ◌∷◌, ◌++◌, refl, sym, ap, ◌∙◌}
use Rattle.std.proofs.lemmas.Bool.{and_from, or_parts}
use Rattle.std.proofs.lemmas.List.Folds.{list_all-append, list_any-append}
use Rattle.scald_base.specs.Signal.{turned}
use Rattle.run_clauses.specs.declared.fact.Said.{Said}
use Rattle.run_clauses.specs.Clauses.{all_hold, clause_holds, said_holds}
use Rattle.run_clauses.specs.Meaning.{Bits}

-- ---- bits

pub not_false : (a : Bool) → not a ≡ false → a ≡ true
not_false true is = refl
not_false false is = absurd (true≢false is)

-- no bit is another
pub differs : (a bit : Bool) → a ≡ bit → a ≡ not bit → ⊥
differs a true is isnt = true≢false (sym is ∙ isnt)
differs a false is isnt = true≢false (sym isnt ∙ is)

-- A bit that is not this is the other.
pub other_bit : (bit own : Bool) → (if bit then own else not own) ≡ false → own ≡ not bit
other_bit true true is = absurd (true≢false is)
other_bit true false is = refl
other_bit false true is = refl
other_bit false false is = absurd (true≢false is)

pub own_bit : (bit own : Bool) → (if not bit then own else not own) ≡ false → own ≡ bit
own_bit true true is = refl
own_bit true false is = absurd (true≢false is)
own_bit false true is = absurd (true≢false is)
own_bit false false is = refl

-- the same of an output that may be complemented
pub other_out : (inverted bit own : Bool) → (if turned inverted bit then own else not own) ≡ false →
    turned inverted own ≡ not bit
other_out true bit own is = ap not (own_bit bit own is)
other_out false bit own is = other_bit bit own is

pub own_out : (inverted bit own : Bool) →
    (if turned inverted (not bit) then own else not own) ≡ false → turned inverted own ≡ bit
own_out true true own is = ap not is
own_out true false own is = is
own_out false true own is = not_false own is
own_out false false own is = is

-- ---- a clause that does not hold

-- nothing that it says is so
abbrev pub NoneHolds : Bits → List Said → Type 0
NoneHolds bits [] = ⊤
NoneHolds bits (s ∷ ss) = (said_holds bits s ≡ false) × NoneHolds bits ss

none_holds : (bits : Bits) (clause : List Said) → clause_holds bits clause ≡ false →
    NoneHolds bits clause
none_holds bits [] fails = tt
none_holds bits (s ∷ ss) fails =
    let parts = or_parts (said_holds bits s) (clause_holds bits ss) fails in
    (parts.0, none_holds bits ss parts.1)

-- a clause that is the first of what was put together
pub begun : (bits : Bits) (some clause : List Said) → some ≡ clause →
    clause_holds bits some ≡ false → NoneHolds bits clause
begun bits some clause is fails = none_holds bits clause (ap (clause_holds bits) (sym is) ∙ fails)

-- and one to which more was put
pub put_more : (bits : Bits) (old new : List Said) (s : Said) → new ≡ old ++ s ∷ [] →
    clause_holds bits new ≡ false → (clause_holds bits old ≡ false) × (said_holds bits s ≡ false)
put_more bits old new s is fails =
    let parts =
    or_parts (clause_holds bits old) (clause_holds bits (s ∷ []))
    (sym (list_any-append (said_holds bits) old (s ∷ [])) ∙ ap (clause_holds bits) (sym is) ∙ fails)
    in
    (parts.0, (or_parts (said_holds bits s) false parts.1).0)

-- ---- clauses more

pub pushed : (bits : Bits) (old new : List (List Said)) (clause : List Said) →
    new ≡ old ++ clause ∷ [] → (clause_holds bits clause ≡ false → ⊥) → all_hold bits old ≡ true →
    all_hold bits new ≡ true
pushed bits old new clause is may_not before =
    ap (all_hold bits) is ∙ list_all-append (clause_holds bits) old (clause ∷ [])
    ∙ and_from (all_hold bits old) (all_hold bits (clause ∷ [])) before
    (and_from (clause_holds bits clause) true (by_value (clause_holds bits clause) refl) refl)
  where
    by_value : (b : Bool) → clause_holds bits clause ≡ b → clause_holds bits clause ≡ true
    by_value true holds = holds
    by_value false failing = absurd (may_not failing)

-- one whose literals are known
pub added : (bits : Bits) (old new : List (List Said)) (clause : List Said) →
    new ≡ old ++ clause ∷ [] → (NoneHolds bits clause → ⊥) → all_hold bits old ≡ true →
    all_hold bits new ≡ true
added bits old new clause is may_not before =
    pushed bits old new clause is (λ fails. may_not (none_holds bits clause fails)) before
