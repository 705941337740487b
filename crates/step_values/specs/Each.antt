-- A law of values, or of bits, as a test that is made at each of them.
use Rattle.std.specs.Prelude.{◌≡◌, Bool, true, false, not, ◌&&◌, ◌||◌, if◌then◌else◌, refl}
use Rattle.std.proofs.Common.{ap, sym}
use Rattle.step_values.specs.declared.value.Value.{Value}
use Rattle.step_values.specs.declared.value.Value.TheVariants.{Zero, One, S, C, R, F, U}

-- the test passes at each of the seven values
abbrev pub each_value : (Value → Bool) → Bool
each_value p = p Zero && (p One && (p S && (p C && (p R && (p F && p U)))))

-- the test passes at both bits
abbrev pub each_bit : (Bool → Bool) → Bool
each_bit p = p false && p true

left : (a b : Bool) → (a && b) ≡ true → a ≡ true
left true b h = refl
left false b h = h

right : (a b : Bool) → (a && b) ≡ true → b ≡ true
right true b h = h
right false b h = ap (λ c. if c then true else b) h

-- whether two bits are one
abbrev pub agree : Bool → Bool → Bool
agree true b = b
agree false b = not b

pub agree_is : (a b : Bool) → agree a b ≡ true → a ≡ b
agree_is true b h = sym h
agree_is false true h = h
agree_is false false h = refl

pub implied : (a b : Bool) → (not a || b) ≡ true → a ≡ true → b ≡ true
implied true b h a_holds = h
implied false b h a_holds = ap (λ c. if c then true else b) a_holds

pub at_value : (p : Value → Bool) → each_value p ≡ true → (v : Value) → p v ≡ true
at_value p h Zero = left (p Zero) _ h
at_value p h One = left (p One) _ (right (p Zero) _ h)
at_value p h S = left (p S) _ (right (p One) _ (right (p Zero) _ h))
at_value p h C = left (p C) _ (right (p S) _ (right (p One) _ (right (p Zero) _ h)))
at_value p h R = left (p R) _ (right (p C) _ (right (p S) _ (right (p One) _ (right (p Zero) _ h))))
at_value p h F =
    left (p F) _ (right (p R) _ (right (p C) _ (right (p S) _
    (right (p One) _ (right (p Zero) _ h)))))
at_value p h U =
    right (p F) _ (right (p R) _ (right (p C) _ (right (p S) _
    (right (p One) _ (right (p Zero) _ h)))))

pub at_bit : (p : Bool → Bool) → each_bit p ≡ true → (b : Bool) → p b ≡ true
at_bit p h false = left (p false) _ h
at_bit p h true = right (p false) _ h

pub at_values : (p : Value → Value → Bool) → each_value (λ v. each_value (p v)) ≡ true →
    (v w : Value) → p v w ≡ true
at_values p h v w = at_value (p v) (at_value (λ u. each_value (p u)) h v) w

pub at_step : (p : Bool → Bool → Bool) → each_bit (λ a. each_bit (p a)) ≡ true →
    (before after : Bool) → p before after ≡ true
at_step p h before after = at_bit (p before) (at_bit (λ a. each_bit (p a)) h before) after

-- two tests of two values are one if they agree at each
pub tests_are : (p q : Value → Value → Bool) →
    each_value (λ v. each_value (λ w. agree (p v w) (q v w))) ≡ true → (v w : Value) → p v w ≡ q v w
tests_are p q h v w = agree_is (p v w) (q v w) (at_values (λ v w. agree (p v w) (q v w)) h v w)
