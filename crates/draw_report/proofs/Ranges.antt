-- Numbers from one on.
use Rattle.std.proofs.Common.{◌≡◌, ℕ, zero, suc, ◌+◌, ◌<◌, ◌≤◌, ◌-◌, Bool, true, false, List, [], ◌∷◌, ◌++◌, get_or, append-nil, arith, ap, sym, ◌∙◌}
use Rattle.std.specs.Prelude.{◌||◌}
use Rattle.std.specs.List.{flat_map, list_any, range_with_len}
use Rattle.std.proofs.lemmas.List.Concat.{flat_map-append}
use Rattle.std.proofs.lemmas.List.Folds.{list_any-append, list_any_at}
use Rattle.std.proofs.lemmas.List.FromFn.{get_or-range_with_len, length-range_with_len}

pub range_apart : (a m n : ℕ) →
    range_with_len a (m + n) ≡ range_with_len a m ++ range_with_len (a + m) n
range_apart a zero n =
    let none : zero + n ≡ n = omega arith in
    let same : a ≡ a + zero = omega arith in
    ap (range_with_len a) none ∙ ap (λ (b : ℕ). range_with_len b n) same
range_apart a (suc m) n =
    let more : suc m + n ≡ suc (m + n) = omega arith in
    let same : a + 1 + m ≡ a + suc m = omega arith in
    ap (range_with_len a) more
    ∙ ap (λ (l : List ℕ). a ∷ l) (range_apart (a + 1) m n
    ∙ ap (λ (b : ℕ). range_with_len (a + 1) m ++ range_with_len b n) same)

-- one number more, which is k
pub range_next : (from count more k : ℕ) → k ≡ from + count → more ≡ count + 1 →
    range_with_len from more ≡ range_with_len from count ++ k ∷ []
range_next from count more k next one =
    ap (range_with_len from) one ∙ range_apart from count 1
    ∙ ap (λ (m : ℕ). range_with_len from count ++ m ∷ []) (sym next)

pub flat_next : {X : Type 0} (f : ℕ → List X) (from count more k : ℕ) → k ≡ from + count →
    more ≡ count + 1 →
    flat_map f (range_with_len from more) ≡ flat_map f (range_with_len from count) ++ f k
flat_next f from count more k next one =
    ap (flat_map f) (range_next from count more k next one)
    ∙ flat_map-append f (range_with_len from count) (k ∷ [])
    ∙ ap (λ l. flat_map f (range_with_len from count) ++ l) (append-nil (f k))

-- none of them passes a test, nor does one more
pub none_next : (test : ℕ → Bool) (from count more k : ℕ) → k ≡ from + count →
    more ≡ count + 1 → list_any test (range_with_len from count) ≡ false → test k ≡ false →
    list_any test (range_with_len from more) ≡ false
none_next test from count more k next one none fails =
    ap (list_any test) (range_next from count more k next one)
    ∙ list_any-append test (range_with_len from count) (k ∷ [])
    ∙ ap (λ (b : Bool). b || (test k || false)) none ∙ ap (λ (b : Bool). b || false) fails

-- one of them passes it
pub some_passes : (test : ℕ → Bool) (from count k : ℕ) → from ≤ k → k < from + count →
    test k ≡ true → list_any test (range_with_len from count) ≡ true
some_passes test from count k after before passes =
    let inside : k - from < count = omega (arith, after, before) in
    let long = length-range_with_len from count in
    let there : get_or (range_with_len from count) (k - from) 0 ≡ k =
    get_or-range_with_len from count (k - from) 0 inside ∙ omega (arith, after) in
    list_any_at test (range_with_len from count) (k - from) 0 (omega (arith, inside, long))
    (ap test there ∙ passes)
