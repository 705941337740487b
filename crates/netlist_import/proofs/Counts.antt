-- Of one more numbers than there are names, one makes a name that is none of them.
use Rattle.std.proofs.Common.{◌≡◌, ℕ, zero, suc, ◌+◌, ◌<◌, ◌≤◌, Bool, true, false, cond, ◌||◌, List, [], ◌∷◌, length, refl, sym, ◌∙◌, arith}
use Rattle.std.specs.List.{list_any}
use Rattle.std.specs.Str.{bytes_eq}
use Rattle.std.proofs.lemmas.Slice.Eq.{bytes_eq-Decides}

-- how many numbers below this one pass
abbrev count : (ℕ → Bool) → ℕ → ℕ
count p zero = 0
count p (suc n) = cond (p n) 1 0 + count p n

count_all : (p : ℕ → Bool) (n : ℕ) → ((k : ℕ) → k < n → p k ≡ true) → count p n ≡ n
count_all p zero all = refl
count_all p (suc n) all =
    let here = all n (omega arith) in
    let below = count_all p n (λ k h. all k (omega arith)) in
    rw (here, below) (omega arith)

count_none : (p : ℕ → Bool) (n : ℕ) → ((k : ℕ) → k < n → p k ≡ false) → count p n ≡ 0
count_none p zero none = refl
count_none p (suc n) none =
    let here = none n (omega arith) in
    let below = count_none p n (λ k h. none k (omega arith)) in
    rw (here, below) refl

either : (a b : Bool) → cond (a || b) 1 0 ≤ cond a 1 0 + cond b 1 0
either true b = omega arith
either false b = omega arith

count_either : (p q : ℕ → Bool) (n : ℕ) → count (λ k. p k || q k) n ≤ count p n + count q n
count_either p q zero = omega arith
count_either p q (suc n) =
    let here = either (p n) (q n) in
    let below = count_either p q n in
    omega arith

module _ (f : ℕ → List ℕ) (most : ℕ) (apart : (m n : ℕ) → m < most → n < most → f m ≡ f n → m ≡ n)
  where
    not_below : (x : List ℕ) (n : ℕ) → n < most → bytes_eq (f n) x ≡ true → (k : ℕ) → k < n →
        bytes_eq (f k) x ≡ false
    not_below x n h here k less = at (bytes_eq (f k) x) refl
      where
        at : (b : Bool) → bytes_eq (f k) x ≡ b → bytes_eq (f k) x ≡ false
        at false e = e
        at true e =
            let one = (bytes_eq-Decides (f k) x).0 e in
            let two = (bytes_eq-Decides (f n) x).0 here in
            let same = apart k n (omega arith) h (one ∙ sym two) in
            absurd (omega arith)

    count_one : (x : List ℕ) (n : ℕ) → n ≤ most → count (λ k. bytes_eq (f k) x) n ≤ 1
    count_one x zero h = omega arith
    count_one x (suc n) h = at (bytes_eq (f n) x) refl (count_one x n (omega arith))
      where
        at : (b : Bool) → bytes_eq (f n) x ≡ b → count (λ k. bytes_eq (f k) x) n ≤ 1 →
            cond (bytes_eq (f n) x) 1 0 + count (λ k. bytes_eq (f k) x) n ≤ 1
        at false e below = rw e (omega arith)
        at true e below =
            let none = count_none (λ k. bytes_eq (f k) x) n (not_below x n (omega arith) e) in
            rw (e, none) (omega arith)

    count_any : (taken : List (List ℕ)) (n : ℕ) → n ≤ most →
        count (λ k. list_any (bytes_eq (f k)) taken) n ≤ length taken
    count_any [] n h =
        let none : count (λ k. list_any (bytes_eq (f k)) []) n ≡ 0 =
        count_none (λ k. list_any (bytes_eq (f k)) []) n (λ k h. refl) in omega arith
    count_any (x ∷ xs) n h =
        let one = count_one x n h in
        let more = count_any xs n h in
        let both = count_either (λ k. bytes_eq (f k) x) (λ k. list_any (bytes_eq (f k)) xs) n in
        omega arith

    -- numbers below this one that all make names that are taken
    pub as_many : (taken : List (List ℕ)) (n : ℕ) → n ≤ most →
        ((k : ℕ) → k < n → list_any (bytes_eq (f k)) taken ≡ true) → n ≤ length taken
    as_many taken n h all =
        let count = count_any taken n h in
        let each = count_all (λ k. list_any (bytes_eq (f k)) taken) n all in
        omega arith
