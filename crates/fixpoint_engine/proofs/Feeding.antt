-- Runs that are fed to a hasher one after another.
use Rattle.std.proofs.Common.{◌≡◌, ℕ, zero, suc, ◌+◌, ◌*◌, ◌-◌, ◌≤◌, Bool, true, false, cond, List, [], ◌∷◌, ◌++◌, drop, fold, length, refl, sym, ap, ◌∙◌, slice_get, Some, arith}
use Rattle.std.specs.Hash as fed
use Rattle.std.proofs.Math.ListN.{drop_of_length-le}
use Rattle.std.proofs.lemmas.List.Sums.{fold-append}
use Rattle.wave_core.specs.Slots.{SameUntil}
use Rattle.step_values.specs.declared.value.Value.{Value}
use Rattle.step_values.specs.Steps.{letter_of}
use Rattle.step_values.specs.Cell.{same}
use Rattle.step_values.specs.Lawful.{values_lawful}
use Rattle.fixpoint_engine.specs.Feed.{cells_fed, goes_on, run_fed}

-- the same run, counted from the cell after the first
later : (c : Value) (cs : List Value) (slot end : ℕ) → SameUntil (c ∷ cs) (suc slot) (suc end) → SameUntil cs slot end
later c cs slot end su = record {
  behind = (let b = su.behind in omega (arith, b));
  within = (let w = su.within in omega (arith, w));
  same = λ p from before. su.same (suc p) (omega (arith, from)) (omega (arith, before));
  other = λ more. su.other (omega (arith, more));
}

-- the same run without its first cell
shorter : (c d : Value) (ds : List Value) (end : ℕ) → SameUntil (c ∷ d ∷ ds) 0 (suc (suc end)) → SameUntil (d ∷ ds) 0 (suc end)
shorter c d ds end su = record {
  behind = omega arith;
  within = (let w = su.within in omega (arith, w));
  same = λ p from before. su.same (suc p) (omega arith) (omega (arith, before)) ∙ sym (su.same 1 (omega arith) (omega arith));
  other = λ more e. su.other (omega (arith, more)) (e ∙ su.same 1 (omega arith) (omega arith));
}

-- what a list feeds, by whether its first cell goes on
fed_by : (b : Bool) (c : Value) (cs : List Value) → goes_on c cs ≡ b → cells_fed (c ∷ cs) ≡ cond b (cells_fed cs) (run_fed c (length cs) ++ cells_fed cs)
unfolding cells_fed
fed_by b c cs e = ap (λ b. cond b (cells_fed cs) (run_fed c (length cs) ++ cells_fed cs)) e

-- a list that begins with a run: the run's write comes first
begins : (c : Value) (cs : List Value) (end : ℕ) → SameUntil (c ∷ cs) 0 (suc end) →
    cells_fed (c ∷ cs) ≡ run_fed c (length cs - end) ++ cells_fed (drop end cs)
begins c [] zero su = fed_by false c [] refl
begins c (d ∷ ds) zero su =
    let all : suc (length ds) ≡ suc (length ds) - 0 = omega arith in
    fed_by false c (d ∷ ds) (by (same c d) refl) ∙ ap (λ n. run_fed c n ++ cells_fed (d ∷ ds)) all
  where
    by : (b : Bool) → same c d ≡ b → same c d ≡ false
    by true e = absurd (su.other (omega arith) (ap Some (sym (values_lawful.same_is c d e))))
    by false e = e
begins c [] (suc end) su = (let w = su.within in absurd (omega (arith, w)))
begins c (d ∷ ds) (suc end) su =
    let next : d ≡ c = let h : Some d ≡ Some c = su.same 1 (omega arith) (omega arith) in cc in
    fed_by true c (d ∷ ds) (ap (same c) next ∙ values_lawful.same_self c)
    ∙ begins d ds end (shorter c d ds end su)
    ∙ (λ i. run_fed (next i) ((let e : length ds - end ≡ suc (length ds) - suc end = omega arith in e) i) ++ cells_fed (drop end ds))

-- what the slots from one on feed: the write of the run that they begin with, and what the slots after it feed
pub run_feeds : (cells : List Value) (slot end : ℕ) (v : Value) → SameUntil cells slot end → slice_get cells slot ≡ Some v →
    cells_fed (drop slot cells) ≡ run_fed v (length cells - end) ++ cells_fed (drop end cells)
run_feeds [] slot end v su at = (let b = su.behind in let w = su.within in absurd (omega (arith, b, w)))
run_feeds (c ∷ cs) slot zero v su at = (let b = su.behind in absurd (omega (arith, b)))
run_feeds (c ∷ cs) zero (suc end) v su at =
    let is : c ≡ v = let h : Some c ≡ Some v = at in cc in
    begins c cs end su ∙ (λ i. run_fed (is i) ((let e : length cs - end ≡ suc (length cs) - suc end = omega arith in e) i) ++ cells_fed (drop end cs))
run_feeds (c ∷ cs) (suc slot) (suc end) v su at =
    run_feeds cs slot end v (later c cs slot end su) at
    ∙ ap (λ n. run_fed v n ++ cells_fed (drop end cs)) (let e : length cs - end ≡ suc (length cs) - suc end = omega arith in e)

-- one run more
pub feeds_more : {S : Type 0} (write : S → List ℕ → S) (cells : List Value) (slot end : ℕ) (v : Value) (letter left : ℕ) (before after all : S) →
    SameUntil cells slot end → slice_get cells slot ≡ Some v → letter ≡ letter_of v → left ≡ length cells - end →
    fold write before (cells_fed (drop slot cells)) ≡ all → after ≡ fold write before (fed.u32 (letter * 65536 + left)) →
    fold write after (cells_fed (drop end cells)) ≡ all
feeds_more write cells slot end v letter left before after all su at is long so_far step =
    let run : fed.u32 (letter * 65536 + left) ≡ run_fed v (length cells - end) = λ i. fed.u32 (is i * 65536 + long i) in
    ap (λ s. fold write s (cells_fed (drop end cells))) (step ∙ ap (fold write before) run)
    ∙ sym (fold-append write before (run_fed v (length cells - end)) (cells_fed (drop end cells)))
    ∙ ap (fold write before) (sym (run_feeds cells slot end v su at))
    ∙ so_far

-- all of them
pub feeds_all : {S : Type 0} (write : S → List ℕ → S) (cells : List Value) (slot : ℕ) (now all : S) → length cells ≤ slot →
    fold write now (cells_fed (drop slot cells)) ≡ all → now ≡ all
unfolding cells_fed
feeds_all write cells slot now all past so_far =
    sym (ap (λ l. fold write now (cells_fed l)) (drop_of_length-le cells past)) ∙ so_far
