-- A table of the values of a case, filled one value after another.
use Rattle.std.proofs.Common.{◌≡◌, ℕ, ◌+◌, ◌<◌, ◌≤◌, ◌==◌, Bool, true, false, cond, List, length, set, get_or, drop, slice_index_or, Option, Some, refl, sym, ap, ◌∙◌, arith}
use Rattle.std.proofs.lemmas.Bool.{eqb-true, eqb-false}
use Rattle.std.proofs.lemmas.List.{drop_more, get_or-set_same, get_or-set_other}
use Rattle.flat_circuit.specs.declared.case.CaseValue.{CaseValue}
use Rattle.flat_circuit.specs.Alike.{value_after}
use Rattle.flat_circuit.specs.Table.{said}

-- a byte says the value of its net, and the others say what they said
pub said_at : (xs : List ℕ) (n i : ℕ) (one : Bool) (x : ℕ) → n < length xs → said x ≡ Some one →
    said (slice_index_or (set xs n x) i 0) ≡ cond (n == i) (Some one) (said (slice_index_or xs i 0))
said_at xs n i one x below says = by (n == i) refl
  where
    by : (here : Bool) → (n == i) ≡ here → said (slice_index_or (set xs n x) i 0) ≡ cond here (Some one) (said (slice_index_or xs i 0))
    by true e = ap (λ (j : ℕ). said (slice_index_or (set xs n x) j 0)) (sym (eqb-true n i e)) ∙ ap said (get_or-set_same xs n x 0 below) ∙ says
    by false e = ap said (get_or-set_other xs n i x 0 (λ same. eqb-false n i e (sym same)))

-- a number that the table does not have is none of its nets
pub not_there : {T : Type 0} (n i most : ℕ) (x old : T) → most ≤ n → i < most → old ≡ cond (n == i) x old
not_there n i most x old past below = by (n == i) refl
  where
    by : (here : Bool) → (n == i) ≡ here → old ≡ cond here x old
    by true e = absurd (let same : n ≡ i = eqb-true n i e in omega (arith, same, past, below))
    by false e = refl

-- one value more of a case
pub one_later : (values : List CaseValue) (k i : ℕ) (d : CaseValue) (old new all : Option Bool) → k < length values →
    new ≡ cond ((get_or values k d).net == i) (Some (get_or values k d).one) old → value_after old (drop k values) i ≡ all →
    value_after new (drop (k + 1) values) i ≡ all
one_later values k i d old new all below set h =
    ap (λ (o : Option Bool). value_after o (drop (k + 1) values) i) set
    ∙ sym (ap (λ (vs : List CaseValue). value_after old vs i) (drop_more values k d below))
    ∙ h
