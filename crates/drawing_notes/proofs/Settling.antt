-- How nets get their part, one after the other.
use Rattle.std.proofs.Common.{◌≡◌, ℕ, ◌+◌, ◌<◌, ◌≤◌, ◌==◌, ◌&&◌, ◌||◌, Bool, true, false, cond, not, List, [], length, take, get_or, refl, sym, ap, ◌∙◌, arith, Option, None}
use Rattle.std.proofs.Math.ListN.{set}
use Rattle.std.proofs.lemmas.Bool.{eqb-true, eqb-false}
use Rattle.std.proofs.lemmas.List.{get_or-set_same, get_or-set_other, length-set, take_all}
use Rattle.std.proofs.lemmas.List.Folds.{list_any_more}
use Rattle.fixpoint_engine.specs.Settled.{marked_in}
use Rattle.fixpoint_engine.specs.Worklist.{among}
use Rattle.fixpoint_engine.proofs.Waiting.{marked_set}
use Rattle.drawing_notes.specs.Parts.{part_at}
use Rattle.drawing_notes.proofs.Knowing.{Settles}

-- ---- all nets are marked

pub marked_more : (marks new : List Bool) (net : ℕ) → net < length marks → new ≡ set marks net true →
    ((i : ℕ) → i < net → marked_in marks i ≡ true) → (i : ℕ) → i < net + 1 → marked_in new i ≡ true
marked_more marks new net inside put before i below = ap (λ (ms : List Bool). marked_in ms i) put ∙ marked_set marks net i true inside ∙ by (net == i) refl
  where
    by : (b : Bool) → (net == i) ≡ b → cond b true (marked_in marks i) ≡ true
    by true same = refl
    by false other = let apart = eqb-false net i other in before i (omega (arith, below, apart))

-- ---- nets of a list

part_set : (parts : List (Option ℕ)) (net i : ℕ) (part : Option ℕ) → net < length parts → part_at (set parts net part) i ≡ cond (net == i) part (part_at parts i)
part_set parts net i part inside = by (net == i) refl
  where
    by : (b : Bool) → (net == i) ≡ b → part_at (set parts net part) i ≡ cond b part (part_at parts i)
    by true e = ap (part_at (set parts net part)) (sym (eqb-true net i e)) ∙ get_or-set_same parts net part None inside
    by false e = get_or-set_other parts net i part None (λ same. eqb-false net i e (sym same))

less_one : (f a n : Bool) → cond n false (f && not a) ≡ (f && not (a || n))
less_one true true true = refl
less_one true true false = refl
less_one true false true = refl
less_one true false false = refl
less_one false a true = refl
less_one false a false = refl

more_one : {A : Type 0} (a n : Bool) (x y : A) → cond n x (cond a x y) ≡ cond (a || n) x y
more_one true true x y = refl
more_one true false x y = refl
more_one false true x y = refl
more_one false false x y = refl

true_and : (b : Bool) → b ≡ (b && true)
true_and true = refl
true_and false = refl

pub settles_start : (part : Option ℕ) (fresh : List Bool) (parts : List (Option ℕ)) → Settles [] part fresh fresh parts parts
settles_start part fresh parts = record { each_net = refl; each_part = refl; settled = λ i. true_and (marked_in fresh i); given = λ i. refl }

pub settles_more : (nets : List ℕ) (k net : ℕ) (part : Option ℕ) (fresh less new_less : List Bool) (parts more new_more : List (Option ℕ)) →
    k < length nets → net ≡ get_or nets k 0 → net < length fresh → net < length parts → new_less ≡ set less net false → new_more ≡ set more net part →
    Settles (take k nets) part fresh less parts more → Settles (take (k + 1) nets) part fresh new_less parts new_more
settles_more nets k net part fresh less new_less parts more new_more below is fits fits_part put put_part before = record {
  each_net = ap length put ∙ length-set less net false ∙ before.each_net;
  each_part = ap length put_part ∙ length-set more net part ∙ before.each_part;
  settled = λ i.
      ap (λ (ms : List Bool). marked_in ms i) put ∙ marked_set less net i false inside ∙ ap (λ b. cond (net == i) false b) (before.settled i)
      ∙ less_one (marked_in fresh i) (among (take k nets) i) (net == i) ∙ ap (λ b. marked_in fresh i && not b) (sym (one_more i));
  given = λ i.
      ap (λ (ps : List (Option ℕ)). part_at ps i) put_part ∙ part_set more net i part inside_part ∙ ap (λ p. cond (net == i) part p) (before.given i)
      ∙ more_one (among (take k nets) i) (net == i) part (part_at parts i) ∙ ap (λ b. cond b part (part_at parts i)) (sym (one_more i));
}
  where
    inside : net < length less
    inside = let same = before.each_net in omega (arith, fits, same)

    inside_part : net < length more
    inside_part = let same = before.each_part in omega (arith, fits_part, same)

    one_more : (i : ℕ) → among (take (k + 1) nets) i ≡ (among (take k nets) i || (net == i))
    one_more i = list_any_more (λ n. n == i) nets k 0 below ∙ ap (λ n. among (take k nets) i || (n == i)) (sym is)

pub settles_all : (nets : List ℕ) (k : ℕ) (part : Option ℕ) (fresh less : List Bool) (parts more : List (Option ℕ)) → length nets ≤ k →
    Settles (take k nets) part fresh less parts more → Settles nets part fresh less parts more
settles_all nets k part fresh less parts more whole is = rw (take_all k nets whole) at is
