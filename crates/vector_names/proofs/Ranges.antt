-- Numbers one after another.
use Rattle.std.proofs.Common.{◌≡◌, ℕ, zero, suc, ◌+◌, ◌-◌, ◌<◌, ◌≤◌, Bool, true, false, cond, nat_le, [], ◌∷◌, ◌++◌, length, reverse, Some, None, refl, ap, ◌∙◌, arith}
use Rattle.std.specs.List.{range_with_len}
use Rattle.std.proofs.lemmas.Bool.Decides.{nat_tests}
use Rattle.std.proofs.lemmas.List.{length-reverse, reverse-append}
use Rattle.std.proofs.lemmas.List.FromFn.{length-range_with_len}
use Rattle.vector_names.specs.Bits.{range_of, from_to}

range_suc : (a n : ℕ) → range_with_len a (suc n) ≡ range_with_len a n ++ (a + n) ∷ []
range_suc a zero = let e : a + 0 ≡ a = omega arith in rw e refl
range_suc a (suc n) = let e : a + 1 + n ≡ a + suc n = omega arith in ap (λ xs. a ∷ xs) (range_suc (a + 1) n ∙ rw e refl)

-- one more at the end
pub range_more : (a n b : ℕ) → a + n ≡ b → range_with_len a (n + 1) ≡ range_with_len a n ++ b ∷ []
range_more a n b h = let e : n + 1 ≡ suc n = omega arith in ap (range_with_len a) e ∙ range_suc a n ∙ ap (λ x. range_with_len a n ++ x ∷ []) h

-- one more at the end of numbers that go down
pub down_more : (a n b : ℕ) → b + n ≡ a → reverse (range_with_len (a + 1 - (n + 1)) (n + 1)) ≡ reverse (range_with_len (a + 1 - n) n) ++ b ∷ []
down_more a n b k =
    let e : n + 1 ≡ suc n = omega arith in
    let f : a + 1 - (n + 1) ≡ b = omega arith in
    let g : a + 1 - n ≡ b + 1 = omega arith in
    rw (f, g, e) (reverse-append (b ∷ []) (range_with_len (b + 1) n))

-- how many they are
pub length_from_to : (a b n : ℕ) → (a ≤ b → b + 1 ≡ a + n) → (b ≤ a → a + 1 ≡ b + n) → length (from_to a b) ≡ n
length_from_to a b n up down = step (nat_le a b) refl where
  step : (t : Bool) → nat_le a b ≡ t → length (cond t (range_with_len a (b - a + 1)) (reverse (range_with_len b (a - b + 1)))) ≡ n
  step true e =
      let h : a ≤ b = grind (arith, nat_tests) in
      let u = up h in
      length-range_with_len a (b - a + 1) ∙ omega arith
  step false e =
      let h : b ≤ a = grind (arith, nat_tests) in
      let d = down h in
      length-reverse (range_with_len b (a - b + 1)) ∙ length-range_with_len b (a - b + 1) ∙ omega arith

pub range_is : (a b n : ℕ) → length (from_to a b) ≡ n → n ≤ 256 → range_of (Some a) (Some b) ≡ Some (from_to a b)
range_is a b n e l =
    let r : nat_le (length (from_to a b)) 256 ≡ true = grind (arith, nat_tests) in
    rw r refl

pub range_long : (a b n : ℕ) → length (from_to a b) ≡ n → 256 < n → range_of (Some a) (Some b) ≡ None
range_long a b n e l =
    let r : nat_le (length (from_to a b)) 256 ≡ false = grind (arith, nat_tests) in
    rw r refl

-- the numbers of a range that goes up, and of one that goes down
pub range_up : (a b : ℕ) → a ≤ b → b - a < 256 → range_of (Some a) (Some b) ≡ Some (range_with_len a (b - a + 1))
range_up a b h l =
    let r : nat_le a b ≡ true = grind (arith, nat_tests) in
    range_is a b (b - a + 1) (length_from_to a b (b - a + 1) (λ k. omega arith) (λ k. omega arith)) (omega arith) ∙ rw r refl

pub range_down : (a b : ℕ) → b < a → a - b < 256 → range_of (Some a) (Some b) ≡ Some (reverse (range_with_len b (a - b + 1)))
range_down a b h l =
    let r : nat_le a b ≡ false = grind (arith, nat_tests) in
    range_is a b (a - b + 1) (length_from_to a b (a - b + 1) (λ k. omega arith) (λ k. omega arith)) (omega arith) ∙ rw r refl
