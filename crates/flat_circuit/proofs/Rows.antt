-- Rows of readers.
use Rattle.std.proofs.Common.{◌≡◌, ℕ, zero, suc, ◌+◌, ◌-◌, ◌<◌, ◌≤◌, Bool, true, false, cond, nat_eq, ◌&&◌, ◌||◌, List, [], ◌∷◌, ◌++◌, length, map, get_or, set, drop, Some, None, refl, ap, sym, subst, ◌∙◌, arith}
use Rattle.std.specs.Prelude.{slice_get, is_some}
use Rattle.std.specs.List.{All, range_with_len}
use Rattle.std.proofs.lemmas.Bool.Decides.{nat_tests}
use Rattle.std.proofs.lemmas.List.{drop_more, drop_all, length_push, append-nil, append_assoc}
use Rattle.std.proofs.lemmas.List.FromFn.{length-map-range_with_len, fill_by_all}
use Rattle.std.proofs.lemmas.List.Elements.{All-nil, All-push, All-get_or, All-weaker, All-tail}
use Rattle.element_kinds.specs.declared.kind.Kind.{Kind}
use Rattle.flat_circuit.specs.declared.instance.Pin.{Pin}
use Rattle.flat_circuit.specs.declared.instance.Instance.{Instance}
use Rattle.element_kinds.specs.Kinds.{listens}
use Rattle.flat_circuit.specs.Instances.{is_on, any_listens, reads, numbers_from, readers_of}
use Rattle.flat_circuit.specs.Steps.{Row, row_at, row_noted, pins_noted, last_is, is_it, noted_by, RowsTo}

last_new : (row : Row) (k : ℕ) → slice_get (row ++ k ∷ []) (length row) ≡ Some k
last_new [] k = refl
last_new (x ∷ xs) k = last_new xs k

noted_again : (row : Row) (k : ℕ) → row_noted (row ++ k ∷ []) k ≡ row ++ k ∷ []
noted_again row k =
    let l = length_push row k in
    let e : length (row ++ k ∷ []) - 1 ≡ length row = omega arith in
    let t : last_is (row ++ k ∷ []) k ≡ true = rw (e, last_new row k) (let r : nat_eq k k ≡ true = grind (arith, nat_tests) in r) in
    rw t refl

last_old : (row : Row) (k i : ℕ) → All (λ r. r < k) row → is_it (slice_get row i) k ≡ false
last_old [] k i a = refl
last_old (x ∷ xs) k zero a = let h = All-get_or (λ r. r < k) (x ∷ xs) 0 0 (omega arith) a in grind (arith, nat_tests)
last_old (x ∷ xs) k (suc i) a = last_old xs k i (tail x xs k a) where
  tail : (x : ℕ) (xs : Row) (k : ℕ) → All (λ r. r < k) (x ∷ xs) → All (λ r. r < k) xs
  tail x xs k a = All-tail (λ r. r < k) x xs a

noted_new : (row : Row) (k : ℕ) → All (λ r. r < k) row → row_noted row k ≡ row ++ k ∷ []
noted_new row k a = rw (last_old row k (length row - 1) a) refl

again : (kind : Kind) (i k t : ℕ) (ps : List Pin) (row : Row) → pins_noted kind i k t ps (row ++ k ∷ []) ≡ row ++ k ∷ []
again kind i k t [] row = refl
again kind i k t (p ∷ ps) row = rw (step (listens kind t && is_on i p.target)) (again kind i k (t + 1) ps row) where
  step : (b : Bool) → cond b (row_noted (row ++ k ∷ []) k) (row ++ k ∷ []) ≡ row ++ k ∷ []
  step true = noted_again row k
  step false = refl

noted_is : (kind : Kind) (i k t : ℕ) (ps : List Pin) (row : Row) → All (λ r. r < k) row → pins_noted kind i k t ps row ≡ cond (any_listens kind i t ps) (row ++ k ∷ []) row
noted_is kind i k t [] row a = refl
noted_is kind i k t (p ∷ ps) row a = step (listens kind t && is_on i p.target) (noted_is kind i k (t + 1) ps row a) where
  step : (b : Bool) → pins_noted kind i k (t + 1) ps row ≡ cond (any_listens kind i (t + 1) ps) (row ++ k ∷ []) row →
      pins_noted kind i k (t + 1) ps (cond b (row_noted row k) row) ≡ cond (b || any_listens kind i (t + 1) ps) (row ++ k ∷ []) row
  step true more = rw (noted_new row k a) (again kind i k (t + 1) ps row)
  step false more = more

noted_by_is : (j : Instance) (i k : ℕ) (row : Row) → All (λ r. r < k) row → noted_by j i k row ≡ cond (reads i j) (row ++ k ∷ []) row
noted_by_is j i k row a = step (is_some j.out) where
  step : (b : Bool) → cond b (pins_noted j.kind i k 0 j.pins row) row ≡ cond (b && any_listens j.kind i 0 j.pins) (row ++ k ∷ []) row
  step true = noted_is j.kind i k 0 j.pins row a
  step false = refl

none_at : (n i : ℕ) (a : ℕ) → row_at (map (λ _. []) (range_with_len a n)) i ≡ []
none_at zero i a = refl
none_at (suc n) zero a = refl
none_at (suc n) (suc i) a = none_at n i (a + 1)

noted_step : (b : Bool) (row : Row) (k : ℕ) (more : Row) → cond b (row ++ k ∷ []) row ++ more ≡ row ++ cond b (k ∷ more) more
noted_step true row k more = append_assoc row (k ∷ []) more
noted_step false row k more = refl

pub rows_start : (js : List Instance) (n : ℕ) (rows : List Row) → rows ≡ map (λ _. []) (range_with_len 0 n) → RowsTo js n 0 rows
rows_start js n rows e = subst (RowsTo js n 0) (sym e) (record {
  long = length-map-range_with_len (λ _. []) 0 n;
  below = λ i. rw (none_at n i 0) (All-nil (λ r. r < 0));
  noted = λ i h. rw (none_at n i 0) refl;
})

pub rows_step : (js : List Instance) (n k : ℕ) (rows rows' : List Row) (j : Instance) → k < length js → j ≡ get_or js k j →
    length rows' ≡ length rows → ((i : ℕ) → row_at rows' i ≡ noted_by j i k (row_at rows i)) → RowsTo js n k rows → RowsTo js n (k + 1) rows'
rows_step js n k rows rows' j l e long noted h = record {
  long = long ∙ h.long;
  below = λ i. rw (noted i ∙ noted_by_is j i k (row_at rows i) (h.below i)) (below_step (reads i j) (row_at rows i) (h.below i));
  noted = λ i b. rw (noted i ∙ noted_by_is j i k (row_at rows i) (h.below i)) (noted_step (reads i j) (row_at rows i)
      k (numbers_from (reads i) (k + 1) (drop (k + 1) js)) ∙ ap (λ x. row_at rows i ++ numbers_from (reads i) k x) (sym rest) ∙ h.noted i b);
} where
  below_step : (b : Bool) (row : Row) → All (λ r. r < k) row → All (λ r. r < k + 1) (cond b (row ++ k ∷ []) row)
  below_step true row a = All-push (λ r. r < k + 1) row k (All-weaker (λ r. r < k) (λ r. r < k + 1) (λ x y. omega arith) row a) (omega arith)
  below_step false row a = All-weaker (λ r. r < k) (λ r. r < k + 1) (λ x y. omega arith) row a

  rest : drop k js ≡ j ∷ drop (k + 1) js
  rest = drop_more js k j l ∙ ap (λ z. z ∷ drop (k + 1) js) (sym e)

pub rows_done : (js : List Instance) (n k : ℕ) (rows : List Row) → length js ≤ k → RowsTo js n k rows → rows ≡ map (readers_of js) (range_with_len 0 n)
rows_done js n k rows l h = fill_by_all (readers_of js) rows n [] h.long (λ i b. let t = h.noted i b in let d = drop_all k js l in sym (append-nil (row_at rows i)) ∙ rw d at t)

rows_get : (rows : List Row) (i : ℕ) (v : Row) → i < length rows → v ≡ get_or rows i v → row_at rows i ≡ v
rows_get [] i v l e = absurd (omega arith)
rows_get (x ∷ xs) zero v l e = sym e
rows_get (x ∷ xs) (suc i) v l e = rows_get xs i v (omega arith) e

rows_set : (rows : List Row) (i x : ℕ) (w : Row) → i < length rows → row_at (set rows i w) x ≡ cond (nat_eq i x) w (row_at rows x)
rows_set [] i x w l = absurd (omega arith)
rows_set (r ∷ rs) zero zero w l = refl
rows_set (r ∷ rs) zero (suc x) w l = let e : nat_eq 0 (suc x) ≡ false = grind (arith, nat_tests) in rw e refl
rows_set (r ∷ rs) (suc i) zero w l = let e : nat_eq (suc i) 0 ≡ false = grind (arith, nat_tests) in rw e refl
rows_set (r ∷ rs) (suc i) (suc x) w l = rows_set rs i x w (omega arith) ∙ same i x w (row_at rs x) where
  same : (i x : ℕ) (a b : Row) → cond (nat_eq i x) a b ≡ cond (nat_eq (suc i) (suc x)) a b
  same i x a b = let e : nat_eq i x ≡ nat_eq (suc i) (suc x) = grind (arith, nat_tests) in ap (λ t. cond t a b) e

eq_cases : (i x : ℕ) (b : Bool) (p q r : Row) → nat_eq i x ≡ b → (i ≡ x → p ≡ q) → cond b p r ≡ cond b q r
eq_cases i x true p q r e f = f (grind (arith, nat_tests))
eq_cases i x false p q r e f = refl

pub row_written : (rows : List Row) (i k : ℕ) (v w : Row) → i < length rows → v ≡ get_or rows i v → w ≡ row_noted v k →
    (x : ℕ) → row_at (set rows i w) x ≡ cond (nat_eq i x) (row_noted (row_at rows x) k) (row_at rows x)
row_written rows i k v w l e h x =
    rows_set rows i x w l ∙ eq_cases i x (nat_eq i x) w (row_noted (row_at rows x) k) (row_at rows x)
    refl (λ q. h ∙ ap (λ r. row_noted r k) (sym (rows_get rows i v l e)) ∙ ap (λ y. row_noted (row_at rows y) k) q)

found_from : (f : ℕ → Row) (rows : List Row) (a n i : ℕ) (r : Row) →
    rows ≡ map f (range_with_len a n) →
    slice_get rows i ≡ Some r → (i < n) × (r ≡ f (a + i))
found_from f [] a n i r e h = absurd (cc)
found_from f (x ∷ xs) a zero i r e h = absurd (cc)
found_from f (x ∷ xs) a (suc n) zero r e h =
    let z : x ≡ r = cc in
    let y : x ≡ f a = cc in
    let q : a + 0 ≡ a = omega arith in
    (omega arith, rw q (sym z ∙ y))
found_from f (x ∷ xs) a (suc n) (suc i) r e h = let p = found_from f xs (a + 1) n i r (cc) h in let b = p.0 in let q : a + 1 + i ≡ a + suc i = omega arith in (omega arith, p.1 ∙ ap f q)

pub row_found : (js : List Instance) (rows : List Row) (n i : ℕ) (r : Row) →
    rows ≡ map (readers_of js) (range_with_len 0 n) → slice_get rows i ≡ Some r → (i < n) × (r ≡ readers_of js i)
row_found js rows n i r e h = let p = found_from (readers_of js) rows 0 n i r e h in let z : 0 + i ≡ i = omega arith in (p.0, p.1 ∙ ap (readers_of js) z)

missing_from : (f : ℕ → Row) (rows : List Row) (a n i : ℕ) → rows ≡ map f (range_with_len a n) → slice_get rows i ≡ None → n ≤ i
missing_from f [] a zero i e h = omega arith
missing_from f [] a (suc n) i e h = absurd (cc)
missing_from f (x ∷ xs) a zero i e h = omega arith
missing_from f (x ∷ xs) a (suc n) zero e h = absurd (cc)
missing_from f (x ∷ xs) a (suc n) (suc i) e h = let p = missing_from f xs (a + 1) n i (cc) h in omega arith

pub row_missing : (js : List Instance) (rows : List Row) (n i : ℕ) →
    rows ≡ map (readers_of js) (range_with_len 0 n) →
    slice_get rows i ≡ None → n ≤ i
row_missing js rows n i e h = missing_from (readers_of js) rows 0 n i e h
