-- Codes of different numbers are different.
use Rattle.std.proofs.Common.{◌≡◌, ℕ, ◌-◌, ◌/◌, ◌%◌, ◌<◌, ◌≤◌, Bool, true, false, List, [], ◌∷◌, refl, arith, rules, tests, sym}
use Rattle.std.specs.Prelude.{if◌then◌else◌, nat_lt}
use Rattle.trace_tool.specs.Variable.{code_digit, code_of, later_code}

-- one digit, or one and others
abbrev digits : Bool → ℕ → List ℕ → List ℕ
digits few n others = if few then code_digit n ∷ [] else code_digit n ∷ others

same_head : (a b : ℕ) (xs ys : List ℕ) → a ∷ xs ≡ b ∷ ys → a ≡ b
same_head a b xs ys e = cc

same_tail : (a b : ℕ) (xs ys : List ℕ) → a ∷ xs ≡ b ∷ ys → xs ≡ ys
same_tail a b xs ys e = cc

-- digits of numbers below 94 are those numbers
same_digit : (m n : ℕ) → code_digit m ≡ code_digit n → m % 94 ≡ n % 94
same_digit m n e = omega (arith, e)

later_by : (few less : Bool) (m n : ℕ) → m < 8930 → n < 8930 → nat_lt m 94 ≡ few → nat_lt n 94 ≡ less →
    digits few m (code_digit (m / 94 - 1) ∷ []) ≡ digits less n (code_digit (n / 94 - 1) ∷ []) → m ≡ n
later_by true true m n below under few less e =
    let small : m < 94 = search (rules, tests) in
    let short : n < 94 = search (rules, tests) in
    let same = same_digit m n (same_head _ _ _ _ e) in
    omega (arith, same, small, short)
later_by true false m n below under few less e = absurd (cc)
later_by false true m n below under few less e = absurd (cc)
later_by false false m n below under few less e =
    let large : 94 ≤ m = search (rules, tests) in
    let long : 94 ≤ n = search (rules, tests) in
    let same = same_digit m n (same_head _ _ _ _ e) in
    let next = same_digit (m / 94 - 1) (n / 94 - 1) (same_head _ _ _ _ (same_tail _ _ _ _ e)) in
    omega (arith, same, next, large, long)

later_differ : (m n : ℕ) → m < 8930 → n < 8930 → later_code m ≡ later_code n → m ≡ n
later_differ m n below under e = later_by (nat_lt m 94) (nat_lt n 94) m n below under refl refl e

no_later : (n : ℕ) → [] ≡ later_code n → ⊥
no_later n e = by (nat_lt n 94) e
  where
    by : (few : Bool) → [] ≡ digits few n (code_digit (n / 94 - 1) ∷ []) → ⊥
    by true e = cc
    by false e = cc

codes_by : (few less : Bool) (m n : ℕ) → m < 65536 → n < 65536 → nat_lt m 94 ≡ few → nat_lt n 94 ≡ less →
    digits few m (later_code (m / 94 - 1)) ≡ digits less n (later_code (n / 94 - 1)) → m ≡ n
codes_by true true m n below under few less e =
    let small : m < 94 = search (rules, tests) in
    let short : n < 94 = search (rules, tests) in
    let same = same_digit m n (same_head _ _ _ _ e) in
    omega (arith, same, small, short)
codes_by true false m n below under few less e = absurd (no_later (n / 94 - 1) (same_tail _ _ _ _ e))
codes_by false true m n below under few less e = absurd (no_later (m / 94 - 1) (sym (same_tail _ _ _ _ e)))
codes_by false false m n below under few less e =
    let large : 94 ≤ m = search (rules, tests) in
    let long : 94 ≤ n = search (rules, tests) in
    let same = same_digit m n (same_head _ _ _ _ e) in
    let next = later_differ (m / 94 - 1) (n / 94 - 1) (omega arith) (omega arith) (same_tail _ _ _ _ e) in
    omega (arith, same, next, large, long)

pub codes_differ : (m n : ℕ) → m < 65536 → n < 65536 → code_of m ≡ code_of n → m ≡ n
unfolding code_of
codes_differ m n below under e = codes_by (nat_lt m 94) (nat_lt n 94) m n below under refl refl e
