-- Parts of all combinations, with one entry more after the other.
use Rattle.std.proofs.Common.{◌≡◌, ℕ, zero, suc, ◌+◌, ◌-◌, ◌*◌, ◌^◌, ◌<◌, ◌≤◌, ◌==◌, nat_le, nat_lt, Bool, true, false, cond, List, [], ◌∷◌, ◌++◌, get_or, length, Option, Some, None, inl, inr, refl, sym, ap, subst, ◌∙◌, arith}
use Rattle.std.specs.List.{count_by, range_with_len, sum_by}
use Rattle.std.proofs.lemmas.Bool.{cases_lt, eq-eqb, le-leb, le-ltb, lt-leb, lt-ltb, ne_eqb}
use Rattle.std.proofs.lemmas.List.Sums.{count_by-le-length, sum_by-cons, sum_by_push}
use Rattle.std.proofs.lemmas.List.FromFn.{get_or-map-range_with_len, length-map-range_with_len, length-range_with_len}
use Rattle.std.proofs.Math.Nat.{pow-suc}
use Rattle.flat_circuit.specs.declared.case.CaseValue.{CaseValue}
use Rattle.drawing_omissions.specs.Same.{case_at, first_same, firsts_same}
use Rattle.drawing_omissions.specs.Open.{count_at, is_new, is_new_of, parts, parts_before, parts_for, parts_of}

pub twice : (n : ℕ) → 2 ^ suc n ≡ 2 * 2 ^ n
twice n = let e = pow-suc 2 n in omega (arith, e)

-- ---- one case

abbrev one : Bool → ℕ
one b = cond b 1 0

for_first : (o : Option ℕ) (own : ℕ) → parts_for 0 o own ≡ one (is_new_of 0 o own)
for_first (Some j) own = refl
for_first None zero = refl
for_first None (suc own) =
    let a : nat_le (suc own) 0 ≡ false = lt-leb (suc own) 0 (omega arith) in
    let d : (suc own == 0) ≡ false = ne_eqb (suc own) 0 (λ e. omega (arith, e)) in
    rw (a, d) refl

for_next : (entries : ℕ) (o : Option ℕ) (own : ℕ) → parts_for (suc entries) o own ≡ 2 * parts_for entries o own + one (is_new_of (suc entries) o own)
for_next entries (Some j) own = refl
for_next entries None own = elim (cases_lt entries own) [ inr below ↦ less own below | inl above ↦ elim (cases_lt (suc entries) own) [ inr same ↦ equal own (omega (arith, above, same)) | inl more ↦ none own more ] ]
  where
    less : (own : ℕ) → own ≤ entries → cond (nat_le own (suc entries)) (2 ^ (suc entries - own)) 0 ≡ 2 * cond (nat_le own entries) (2 ^ (entries - own)) 0 + one (own == suc entries)
    less own h =
        let a : nat_le own (suc entries) ≡ true = le-leb own (suc entries) (omega (arith, h)) in
        let b : nat_le own entries ≡ true = le-leb own entries h in
        let d : (own == suc entries) ≡ false = ne_eqb own (suc entries) (λ e. omega (arith, e, h)) in
        let e : suc entries - own ≡ suc (entries - own) = omega (arith, h) in
        let p = twice (entries - own) in
        rw (a, b, d, e) (omega (arith, p))

    equal : (own : ℕ) → own ≡ suc entries → cond (nat_le own (suc entries)) (2 ^ (suc entries - own)) 0 ≡ 2 * cond (nat_le own entries) (2 ^ (entries - own)) 0 + one (own == suc entries)
    equal own h =
        let a : nat_le own (suc entries) ≡ true = le-leb own (suc entries) (omega (arith, h)) in
        let b : nat_le own entries ≡ false = lt-leb own entries (omega (arith, h)) in
        let d : (own == suc entries) ≡ true = eq-eqb own (suc entries) h in
        let e : suc entries - own ≡ 0 = omega (arith, h) in
        rw (a, b, d, e) refl

    none : (own : ℕ) → suc entries < own → cond (nat_le own (suc entries)) (2 ^ (suc entries - own)) 0 ≡ 2 * cond (nat_le own entries) (2 ^ (entries - own)) 0 + one (own == suc entries)
    none own h =
        let a : nat_le own (suc entries) ≡ false = lt-leb own (suc entries) h in
        let b : nat_le own entries ≡ false = lt-leb own entries (omega (arith, h)) in
        let d : (own == suc entries) ≡ false = ne_eqb own (suc entries) (λ e. omega (arith, e, h)) in
        rw (a, b, d) refl

-- ---- all of them

sum_same : (f g : ℕ → ℕ) (ks : List ℕ) → ((k : ℕ) → f k ≡ g k) → sum_by f ks ≡ sum_by g ks
sum_same f g ks h = ap (λ (p : ℕ → ℕ). sum_by p ks) (λ i k. h k i)

sum_next : (f g h : ℕ → ℕ) (ks : List ℕ) → ((k : ℕ) → f k ≡ 2 * g k + h k) → sum_by f ks ≡ 2 * sum_by g ks + sum_by h ks
sum_next f g h [] is = refl
sum_next f g h (k ∷ ks) is =
    let a = sum_by-cons f k ks in
    let b = sum_by-cons g k ks in
    let d = sum_by-cons h k ks in
    let e = sum_next f g h ks is in
    let here = is k in
    omega (arith, a, b, d, e, here)

module _ (cases : List (List CaseValue)) where
  pub parts_next : (entries : ℕ) → parts cases entries ≡ 2 * parts_before cases entries + count_at cases entries
  parts_next zero =
      let s : parts cases 0 ≡ count_at cases 0 = sum_same (parts_of cases 0) (λ k. one (is_new cases 0 k)) (range_with_len 0 (length cases)) (λ k. for_first (first_same cases k) (length (case_at cases k))) in
      omega (arith, s)
  parts_next (suc entries) = sum_next (parts_of cases (suc entries)) (parts_of cases entries) (λ k. one (is_new cases (suc entries) k)) (range_with_len 0 (length cases))
      (λ k. for_next entries (first_same cases k) (length (case_at cases k)))

  pub before_next : (entries : ℕ) → parts_before cases (entries + 1) ≡ parts cases entries
  before_next entries = let e : entries + 1 ≡ suc entries = omega arith in ap (parts_before cases) e

  few_next : (n entries : ℕ) → ((e : ℕ) → count_at cases e ≤ n) → parts cases entries + n ≤ 2 ^ entries → parts cases (suc entries) + n ≤ 2 ^ suc entries
  few_next n entries few h =
      let a = parts_next (suc entries) in
      let b = few (suc entries) in
      let p = twice entries in
      omega (arith, a, b, p, h)

  many_next : (entries : ℕ) → 2 ^ entries ≤ parts cases entries → 2 ^ suc entries ≤ parts cases (suc entries)
  many_next entries h =
      let a = parts_next (suc entries) in
      let p = twice entries in
      omega (arith, a, p, h)

  -- what is settled with fewer entries stays so
  pub many_last : (entries more : ℕ) → 2 ^ entries ≤ parts cases entries → 2 ^ (entries + more) ≤ parts cases (entries + more)
  many_last entries zero h = let e : entries + 0 ≡ entries = omega arith in subst (λ n. 2 ^ n ≤ parts cases n) (sym e) h
  many_last entries (suc more) h =
      let e : entries + suc more ≡ suc (entries + more) = omega arith in
      subst (λ n. 2 ^ n ≤ parts cases n) (sym e) (many_next (entries + more) (many_last entries more h))

  pub few_last : (n entries more : ℕ) → ((e : ℕ) → count_at cases e ≤ n) → parts cases entries + n ≤ 2 ^ entries → parts cases (entries + more) + n ≤ 2 ^ (entries + more)
  few_last n entries zero few h = let e : entries + 0 ≡ entries = omega arith in subst (λ m. parts cases m + n ≤ 2 ^ m) (sym e) h
  few_last n entries (suc more) few h =
      let e : entries + suc more ≡ suc (entries + more) = omega arith in
      subst (λ m. parts cases m + n ≤ 2 ^ m) (sym e) (few_next n (entries + more) few (few_last n entries more few h))

-- ---- by the first of each case

pub firsts_long : (cases : List (List CaseValue)) (firsts : List (Option ℕ)) → firsts ≡ firsts_same cases → length firsts ≡ length cases
firsts_long cases firsts is = ap length is ∙ length-map-range_with_len (first_same cases) 0 (length cases)

pub new_is : (cases : List (List CaseValue)) (firsts : List (Option ℕ)) (entries place : ℕ) (o : Option ℕ) (own : ℕ) → firsts ≡ firsts_same cases → place < length cases →
    get_or firsts place None ≡ o → own ≡ length (case_at cases place) → is_new_of entries o own ≡ is_new cases entries place
new_is cases firsts entries place o own is below at long =
    ap (is_new_of entries o) long
    ∙ ap (λ (p : Option ℕ). is_new_of entries p (length (case_at cases place)))
    (sym at ∙ ap (λ (fs : List (Option ℕ)). get_or fs place None) is ∙ get_or-map-range_with_len (first_same cases) 0 (length cases) place place None below (omega arith))

range_last : (a n : ℕ) → range_with_len a (suc n) ≡ range_with_len a n ++ (a + n) ∷ []
range_last a zero = let e : a + 0 ≡ a = omega arith in ap (λ m. m ∷ []) (sym e)
range_last a (suc n) = let e : a + 1 + n ≡ a + suc n = omega arith in ap (λ l. a ∷ l) (range_last (a + 1) n) ∙ ap (λ m. range_with_len a (suc n) ++ m ∷ []) e

pub count_more : (p : ℕ → Bool) (n : ℕ) → count_by p (range_with_len 0 (n + 1)) ≡ count_by p (range_with_len 0 n) + one (p n)
count_more p n =
    let e : n + 1 ≡ suc n = omega arith in
    let z : 0 + n ≡ n = omega arith in
    ap (λ m. count_by p (range_with_len 0 m)) e ∙ ap (count_by p) (range_last 0 n) ∙ sum_by_push (λ k. one (p k)) (range_with_len 0 n) (0 + n) ∙ ap (λ m. count_by p (range_with_len 0 n) + one (p m)) z

-- ---- the last answer

pub enough : (cases : List (List CaseValue)) (entries most : ℕ) → entries ≤ most → 2 ^ entries ≤ parts cases entries → nat_lt (parts cases most) (2 ^ most) ≡ false
enough cases entries most le h =
    let e : entries + (most - entries) ≡ most = omega (arith, le) in
    let last : 2 ^ most ≤ parts cases most = subst (λ n. 2 ^ n ≤ parts cases n) e (many_last cases entries (most - entries) h) in
    le-ltb (parts cases most) (2 ^ most) last

pub too_few : (cases : List (List CaseValue)) (n entries most : ℕ) → 0 < n → entries ≤ most → ((e : ℕ) → count_at cases e ≤ n) → parts cases entries + n ≤ 2 ^ entries →
    nat_lt (parts cases most) (2 ^ most) ≡ true
too_few cases n entries most some le few h =
    let e : entries + (most - entries) ≡ most = omega (arith, le) in
    let last : parts cases most + n ≤ 2 ^ most = subst (λ m. parts cases m + n ≤ 2 ^ m) e (few_last cases n entries (most - entries) few h) in
    lt-ltb (parts cases most) (2 ^ most) (omega (arith, last, some))

pub few_at : (cases : List (List CaseValue)) (entries : ℕ) → count_at cases entries ≤ length cases
few_at cases entries =
    let le = count_by-le-length (is_new cases entries) (range_with_len 0 (length cases)) in
    let long = length-range_with_len 0 (length cases) in
    omega (arith, le, long)

pub same_test : (a b d e : ℕ) → (a < b → d < e) → (b ≤ a → e ≤ d) → nat_lt a b ≡ nat_lt d e
same_test a b d e there back = elim (cases_lt a b) [
  | inl less ↦ lt-ltb a b less ∙ sym (lt-ltb d e (there less))
  | inr more ↦ le-ltb a b more ∙ sym (le-ltb d e (back more))
]
