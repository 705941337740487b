-- Tables while they are filled, index by index.
use Rattle.std.proofs.Common.{◌≡◌, ℕ, ◌+◌, ◌/◌, ◌%◌, ◌<◌, ◌⊎◌, List, length, get_or, ◌∙◌, arith, inl, inr}
use Rattle.std.proofs.lemmas.List.{get_or-set_other}
use Rattle.std.proofs.lemmas.Grind.{get_or-set_at}
use Rattle.std.proofs.Math.ListN.{set, length-set}
use Rattle.std.proofs.Math.Nat.{eq-or-lt_of_le}
use Rattle.step_values.specs.declared.value.Value.{Value}
use Rattle.step_values.specs.declared.value.Value.TheVariants.{Zero}
use Rattle.step_values.specs.Table.{number, index2, index3, index4}

number_below : (v : Value) → number v < 7
number_below v = grind arith

-- values of one number are one
number_is : (v w : Value) → number v ≡ number w → v ≡ w
number_is v w e = grind arith

-- one more entry: what was there stays, and at the new index stands the new value
one_more : (xs : List Value) (i k : ℕ) (new wanted : Value) → i < length xs → k < i + 1 →
    (k < i → get_or xs k Zero ≡ wanted) → (k ≡ i → new ≡ wanted) → get_or (set xs i new) k Zero ≡ wanted
one_more xs i k new wanted room below old here =
    let cases : (k ≡ i) ⊎ (k < i) = eq-or-lt_of_le (omega arith) in
    elim cases [
      | inl same ↦ get_or-set_at xs i k new Zero same room ∙ here same
      | inr less ↦ get_or-set_other xs i k new Zero (omega arith) ∙ old less
    ]

-- the entries below an index are those of the function
pub record Filled2 (f : Value → Value → Value) (entries : List Value) (n : ℕ) : Type 0 where
  pub size : length entries ≡ 49
  pub below : (a b : Value) → index2 a b < n → get_or entries (index2 a b) Zero ≡ f a b

pub filled2 : (f : Value → Value → Value) (entries : List Value) (i : ℕ) (v w new : Value) → i < 49 →
    number v ≡ i / 7 → number w ≡ i % 7 → new ≡ f v w → Filled2 f entries i → Filled2 f (set entries i new) (i + 1)
filled2 f entries i v w new room at_v at_w is old = record {
  size = length-set entries i new ∙ old.size;
  below = λ a b below.
      let size : length entries ≡ 49 = old.size in
      one_more entries i (index2 a b) new (f a b) (omega arith) below (old.below a b) (λ same.
      let a_below = number_below a in
      let b_below = number_below b in
      let v_is : v ≡ a = number_is v a (omega arith) in
      let w_is : w ≡ b = number_is w b (omega arith) in
      rw (is, v_is, w_is));
}

-- the entries below an index are those of the function
pub record Filled3 (f : Value → Value → Value → Value) (entries : List Value) (n : ℕ) : Type 0 where
  pub size : length entries ≡ 343
  pub below : (a b c : Value) → index3 a b c < n → get_or entries (index3 a b c) Zero ≡ f a b c

pub filled3 : (f : Value → Value → Value → Value) (entries : List Value) (i : ℕ) (u v w new : Value) → i < 343 →
    number u ≡ i / 49 → number v ≡ i / 7 % 7 → number w ≡ i % 7 → new ≡ f u v w → Filled3 f entries i → Filled3 f (set entries i new) (i + 1)
filled3 f entries i u v w new room at_u at_v at_w is old = record {
  size = length-set entries i new ∙ old.size;
  below = λ a b c below.
      let size : length entries ≡ 343 = old.size in
      one_more entries i (index3 a b c) new (f a b c) (omega arith) below (old.below a b c) (λ same.
      let a_below = number_below a in
      let b_below = number_below b in
      let c_below = number_below c in
      let u_is : u ≡ a = number_is u a (omega arith) in
      let v_is : v ≡ b = number_is v b (omega arith) in
      let w_is : w ≡ c = number_is w c (omega arith) in
      rw (is, u_is, v_is, w_is));
}

-- the entries below an index are those of the function
pub record Filled4 (f : Value → Value → Value → Value → Value) (entries : List Value) (n : ℕ) : Type 0 where
  pub size : length entries ≡ 2401
  pub below : (a b c d : Value) → index4 a b c d < n → get_or entries (index4 a b c d) Zero ≡ f a b c d

pub filled4 : (f : Value → Value → Value → Value → Value) (entries : List Value) (i : ℕ) (t u v w new : Value) → i < 2401 →
    number t ≡ i / 343 → number u ≡ i / 49 % 7 → number v ≡ i / 7 % 7 → number w ≡ i % 7 → new ≡ f t u v w → Filled4 f entries i → Filled4 f (set entries i new) (i + 1)
filled4 f entries i t u v w new room at_t at_u at_v at_w is old = record {
  size = length-set entries i new ∙ old.size;
  below = λ a b c d below.
      let size : length entries ≡ 2401 = old.size in
      one_more entries i (index4 a b c d) new (f a b c d) (omega arith) below (old.below a b c d) (λ same.
      let a_below = number_below a in
      let b_below = number_below b in
      let c_below = number_below c in
      let d_below = number_below d in
      let t_is : t ≡ a = number_is t a (omega arith) in
      let u_is : u ≡ b = number_is u b (omega arith) in
      let v_is : v ≡ c = number_is v c (omega arith) in
      let w_is : w ≡ d = number_is w d (omega arith) in
      rw (is, t_is, u_is, v_is, w_is));
}

-- a table of so many entries has one for each choice of arguments
pub index2_below : (a b : Value) → index2 a b < 49
index2_below a b = omega (arith, number_below a, number_below b)

pub index3_below : (a b c : Value) → index3 a b c < 343
index3_below a b c = omega (arith, number_below a, number_below b, number_below c)

pub index4_below : (a b c d : Value) → index4 a b c d < 2401
index4_below a b c d = omega (arith, number_below a, number_below b, number_below c, number_below d)
