-- A window of folds is one fold, as far as tests go that pass through joins.
use Rattle.std.proofs.Common.{◌≡◌, ℕ, zero, suc, ◌+◌, ◌-◌, ◌%◌, ◌<◌, ◌≤◌, min, Bool, true, ◌&&◌, List, get_or, length, refl, sym, ap, ◌∙◌, inl, inr, arith}
use Rattle.std.specs.Cmp.{both_ways}
use Rattle.std.proofs.lemmas.Bool.{and_parts, and_from, cases_eq}
use Rattle.std.proofs.Math.Nat.{mod-lt, mod-le}
use Rattle.scald_base.specs.Clock.{back}
use Rattle.scald_base.specs.Time.{Bounds}
use Rattle.scald_base.proofs.Back.{back_back}
use Rattle.wave_core.specs.Cell.{Cells}
use Rattle.wave_core.specs.Slots.{earlier, later, join_to, fold_at}
use Rattle.skew_algebra.specs.Wave.{Wave, fold}
use Rattle.skew_algebra.proofs.Moves.{earlier_period, earlier_turned, length_later}
use Rattle.gate_eval.specs.Change.{all_to}

pub all_to_at : (f : ℕ → Bool) (n i : ℕ) → all_to f n ≡ true → i ≤ n → f i ≡ true
all_to_at f zero i h below = let e : i ≡ 0 = omega arith in ap f e ∙ h
all_to_at f (suc n) i h below = elim (cases_eq i (suc n)) [
  | inl e ↦ ap f e ∙ (and_parts (all_to f n) (f (suc n)) h).1
  | inr ne ↦ all_to_at f n i (and_parts (all_to f n) (f (suc n)) h).0 (omega arith)
]

pub all_to_from : (f : ℕ → Bool) (n : ℕ) → ((i : ℕ) → i ≤ n → f i ≡ true) → all_to f n ≡ true
all_to_from f zero h = h 0 (omega arith)
all_to_from f (suc n) h = and_from (all_to f n) (f (suc n)) (all_to_from f n (λ i l. h i (omega arith))) (h (suc n) (omega arith))

all_to_same : (f h : ℕ → Bool) (n : ℕ) → ((i : ℕ) → i ≤ n → f i ≡ h i) → all_to f n ≡ all_to h n
all_to_same f h zero e = e 0 (omega arith)
all_to_same f h (suc n) e =
    let before : all_to f n ≡ all_to h n = all_to_same f h n (λ i l. e i (omega arith)) in
    let last : f (suc n) ≡ h (suc n) = e (suc n) (omega arith) in
    λ j. before j && last j

pub all_to_both : (f h : ℕ → Bool) (n : ℕ) → all_to (λ i. f i && h i) n ≡ (all_to f n && all_to h n)
all_to_both f h zero = refl
all_to_both f h (suc n) =
    ap (λ b. b && (f (suc n) && h (suc n))) (all_to_both f h n) ∙ swapped (all_to f n) (all_to h n) (f (suc n)) (h (suc n))
  where
    swapped : (a b c d : Bool) → ((a && b) && (c && d)) ≡ ((a && c) && (b && d))
    swapped a b c d = grind arith

pub all_to_true : (n : ℕ) → all_to (λ i. true) n ≡ true
all_to_true n = all_to_from (λ i. true) n (λ i l. refl)

-- A range of ranges is one range; and of what comes again after p places, p places are enough.
ranges : (q : ℕ → Bool) (p skew width : ℕ) → 0 < p → ((j : ℕ) → q (j % p) ≡ q j) →
    all_to q (min (skew + width) (p - 1)) ≡ all_to (λ i. all_to (λ o. q (i + o)) skew) width
ranges q p skew width some again =
    both_ways (all_to q (min (skew + width) (p - 1))) (all_to (λ i. all_to (λ o. q (i + o)) skew) width)
    (λ h. all_to_from (λ i. all_to (λ o. q (i + o)) skew) width (λ i within. all_to_from (λ o. q (i + o)) skew (λ o near.
    sym (again (i + o)) ∙ all_to_at q (min (skew + width) (p - 1)) ((i + o) % p) h
    (let small : (i + o) % p < p = mod-lt (i + o) some in let less : (i + o) % p ≤ i + o = mod-le (i + o) p in omega arith))))
    (λ h. all_to_from q (min (skew + width) (p - 1)) (λ j within.
    let parts : min j width + (j - min j width) ≡ j = omega arith in
    ap q (sym parts)
    ∙ all_to_at (λ o. q (min j width + o)) skew (j - min j width)
    (all_to_at (λ i. all_to (λ o. q (i + o)) skew) width (min j width) h (omega arith)) (omega arith)))

module _ {T : Type 0} (k : Cells T) where
  pub earlier_back : (cells : List T) (p m o j : ℕ) → j ≡ m + o → earlier k cells p j ≡ earlier k cells (back (length cells) p m) o
  unfolding earlier
  earlier_back cells p m o j e =
      ap (λ (z : ℕ). get_or cells (back (length cells) p z) k.any) e
      ∙ sym (ap (λ (z : ℕ). get_or cells z k.any) (back_back (length cells) p m o))

  module _ (test : T → Bool) (through : (v w : T) → test (k.join v w) ≡ (test v && test w)) where
    test_join_to : (f : ℕ → T) (n : ℕ) → test (join_to k f n) ≡ all_to (λ i. test (f i)) n
    test_join_to f zero = refl
    test_join_to f (suc n) = through (join_to k f n) (f (suc n)) ∙ ap (λ b. b && test (f (suc n))) (test_join_to f n)

    -- one fold of the turned wave, for the folds of all slots of the window
    pub test_window : (w : Wave T) (d : Bounds) (p : ℕ) → 0 < length w.cells →
        test (fold_at k (later k w.cells d.min) (min (w.skew + (d.max - d.min)) (length w.cells - 1)) p)
        ≡ all_to (λ i. test (fold k w (back (length w.cells) p (d.min + i)))) (d.max - d.min)
    test_window w d p some =
        test_join_to (λ o. earlier k (later k w.cells d.min) p o) (min (w.skew + (d.max - d.min)) (length w.cells - 1))
        ∙ ranges (λ (j : ℕ). test (earlier k (later k w.cells d.min) p j)) (length w.cells) w.skew (d.max - d.min) some
        (λ j. ap test (ap (λ (n : ℕ). earlier k (later k w.cells d.min) p (j % n)) (sym (length_later k w.cells d.min)) ∙ earlier_period k (later k w.cells d.min) p j))
        ∙ all_to_same (λ i. all_to (λ o. test (earlier k (later k w.cells d.min) p (i + o))) w.skew)
        (λ i. test (fold k w (back (length w.cells) p (d.min + i)))) (d.max - d.min)
        (λ i l. all_to_same (λ o. test (earlier k (later k w.cells d.min) p (i + o))) (λ o. test (earlier k w.cells (back (length w.cells) p (d.min + i)) o)) w.skew
        (λ o l'. ap test (earlier_turned k w.cells d.min p (i + o) some ∙ earlier_back w.cells p (d.min + i) o (i + o + d.min) (omega arith)))
        ∙ sym (test_join_to (λ o. earlier k w.cells (back (length w.cells) p (d.min + i)) o) w.skew))
