-- What elements make of quiet values is quiet, but for storage whose set and reset may both be 1.
use Rattle.std.proofs.Common.{◌≡◌, true, not, ◌||◌, refl}
use Rattle.step_values.specs.declared.value.Value.{Value}
use Rattle.step_values.specs.declared.value.Value.TheVariants.{Zero, One, S, C, R, F, U}
use Rattle.step_values.specs.Each.{at_values, implied}
use Rattle.step_values.specs.Steps.{is_quiet, join}
use Rattle.step_values.specs.Image.{image1, image2, image3, and_image, or_image, xor_image, mux2_image, reg_image, latch_image, and_of, or_of, xor_of, mux2_of, reg_of, latch_of}

-- ---- joins

pub both_quiet : (v w : Value) → is_quiet v ≡ true → is_quiet w ≡ true → is_quiet (join v w) ≡ true
both_quiet v w q r =
    implied (is_quiet w) (is_quiet (join v w))
    (implied (is_quiet v) (not (is_quiet w) || is_quiet (join v w))
    (at_values (λ v w. not (is_quiet v) || (not (is_quiet w) || is_quiet (join v w))) refl v w) q) r

pub first_quiet : (v w : Value) → is_quiet (join v w) ≡ true → is_quiet v ≡ true
first_quiet v w = implied (is_quiet (join v w)) (is_quiet v) (at_values (λ v w. not (is_quiet (join v w)) || is_quiet v) refl v w)

pub second_quiet : (v w : Value) → is_quiet (join v w) ≡ true → is_quiet w ≡ true
second_quiet v w = implied (is_quiet (join v w)) (is_quiet w) (at_values (λ v w. not (is_quiet (join v w)) || is_quiet w) refl v w)

-- ---- images

-- what holds of 0, 1 and S holds of every quiet value
pub of_quiet : (P : Value → Type 0) → P Zero → P One → P S → (v : Value) → is_quiet v ≡ true → P v
of_quiet P zero one stable Zero quiet = zero
of_quiet P zero one stable One quiet = one
of_quiet P zero one stable S quiet = stable
of_quiet P zero one stable C quiet = absurd (cc)
of_quiet P zero one stable R quiet = absurd (cc)
of_quiet P zero one stable F quiet = absurd (cc)
of_quiet P zero one stable U quiet = absurd (cc)

pub quiet_and : (a b : Value) → is_quiet a ≡ true → is_quiet b ≡ true → is_quiet (and_of a b) ≡ true
unfolding image1 image2 and_image and_of
quiet_and a b q r =
    of_quiet (λ (a : Value). is_quiet (and_of a b) ≡ true)
    (of_quiet (λ (b : Value). is_quiet (and_of Zero b) ≡ true) refl refl refl b r)
    (of_quiet (λ (b : Value). is_quiet (and_of One b) ≡ true) refl refl refl b r)
    (of_quiet (λ (b : Value). is_quiet (and_of S b) ≡ true) refl refl refl b r) a q

pub quiet_or : (a b : Value) → is_quiet a ≡ true → is_quiet b ≡ true → is_quiet (or_of a b) ≡ true
unfolding image1 image2 or_image or_of
quiet_or a b q r =
    of_quiet (λ (a : Value). is_quiet (or_of a b) ≡ true)
    (of_quiet (λ (b : Value). is_quiet (or_of Zero b) ≡ true) refl refl refl b r)
    (of_quiet (λ (b : Value). is_quiet (or_of One b) ≡ true) refl refl refl b r)
    (of_quiet (λ (b : Value). is_quiet (or_of S b) ≡ true) refl refl refl b r) a q

pub quiet_xor : (a b : Value) → is_quiet a ≡ true → is_quiet b ≡ true → is_quiet (xor_of a b) ≡ true
unfolding image1 image2 xor_image xor_of
quiet_xor a b q r =
    of_quiet (λ (a : Value). is_quiet (xor_of a b) ≡ true)
    (of_quiet (λ (b : Value). is_quiet (xor_of Zero b) ≡ true) refl refl refl b r)
    (of_quiet (λ (b : Value). is_quiet (xor_of One b) ≡ true) refl refl refl b r)
    (of_quiet (λ (b : Value). is_quiet (xor_of S b) ≡ true) refl refl refl b r) a q

pub quiet_mux2 : (s a b : Value) → is_quiet s ≡ true → is_quiet a ≡ true → is_quiet b ≡ true → is_quiet (mux2_of s a b) ≡ true
unfolding image1 image2 image3 mux2_image mux2_of
quiet_mux2 s a b h q r =
    of_quiet (λ (s : Value). is_quiet (mux2_of s a b) ≡ true)
    (of_quiet (λ (a : Value). is_quiet (mux2_of Zero a b) ≡ true)
    (of_quiet (λ (b : Value). is_quiet (mux2_of Zero Zero b) ≡ true) refl refl refl b r)
    (of_quiet (λ (b : Value). is_quiet (mux2_of Zero One b) ≡ true) refl refl refl b r)
    (of_quiet (λ (b : Value). is_quiet (mux2_of Zero S b) ≡ true) refl refl refl b r) a q)
    (of_quiet (λ (a : Value). is_quiet (mux2_of One a b) ≡ true)
    (of_quiet (λ (b : Value). is_quiet (mux2_of One Zero b) ≡ true) refl refl refl b r)
    (of_quiet (λ (b : Value). is_quiet (mux2_of One One b) ≡ true) refl refl refl b r)
    (of_quiet (λ (b : Value). is_quiet (mux2_of One S b) ≡ true) refl refl refl b r) a q)
    (of_quiet (λ (a : Value). is_quiet (mux2_of S a b) ≡ true)
    (of_quiet (λ (b : Value). is_quiet (mux2_of S Zero b) ≡ true) refl refl refl b r)
    (of_quiet (λ (b : Value). is_quiet (mux2_of S One b) ≡ true) refl refl refl b r)
    (of_quiet (λ (b : Value). is_quiet (mux2_of S S b) ≡ true) refl refl refl b r) a q) s h

pub quiet_reg : (clock : Value) → is_quiet clock ≡ true → is_quiet (reg_of clock) ≡ true
unfolding image1 reg_image reg_of
quiet_reg clock q = of_quiet (λ (clock : Value). is_quiet (reg_of clock) ≡ true) refl refl refl clock q

pub quiet_latch : (a b : Value) → is_quiet a ≡ true → is_quiet b ≡ true → is_quiet (latch_of a b) ≡ true
unfolding image1 image2 latch_image latch_of
quiet_latch a b q r =
    of_quiet (λ (a : Value). is_quiet (latch_of a b) ≡ true)
    (of_quiet (λ (b : Value). is_quiet (latch_of Zero b) ≡ true) refl refl refl b r)
    (of_quiet (λ (b : Value). is_quiet (latch_of One b) ≡ true) refl refl refl b r)
    (of_quiet (λ (b : Value). is_quiet (latch_of S b) ≡ true) refl refl refl b r) a q
