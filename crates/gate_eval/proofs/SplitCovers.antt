-- In every slot the output of a gate with two delays may be 0 or 1, so its value is the cover of a set
-- that is not empty.
use Rattle.std.proofs.Common.{◌≡◌, ℕ, ◌≤◌, ◌⊎◌, nat_le, Bool, true, false, not, refl, sym, ap, ◌∙◌, inl, inr, List, arith}
use Rattle.std.proofs.lemmas.Bool.{and_from, leb-true}
use Rattle.wave_core.specs.Slots.{earlier}
use Rattle.step_values.specs.declared.value.Value.{Value}
use Rattle.step_values.specs.declared.value.Value.TheVariants.{Zero, One, S, C, R, F, U}
use Rattle.step_values.specs.Cell.{values}
use Rattle.flat_circuit.specs.declared.split.Split.{Split}
use Rattle.flat_circuit.specs.Split.{either_delay}
use Rattle.gate_eval.specs.Split.{ends_in, some_before, may_be, may_be_one, may_be_zero, SomeBitIsLeft}
use Rattle.gate_eval.proofs.SplitSound.{before_from}

ends_some : (v : Value) → (ends_in true v ≡ true) ⊎ (ends_in false v ≡ true)
ends_some Zero = inr refl
ends_some One = inl refl
ends_some S = inl refl
ends_some C = inl refl
ends_some R = inl refl
ends_some F = inl refl
ends_some U = inl refl

module _ (s : Split) (cells : List Value) (p : ℕ) (rise : s.rise.min ≤ s.rise.max) (fall : s.fall.min ≤ s.fall.max) where
  abbrev at_rise : Value
  at_rise = earlier values cells p s.rise.min

  abbrev at_fall : Value
  at_fall = earlier values cells p s.fall.min

  -- some slot from the greatest to the least of both delays before ends in the bit
  by_rise : (bit : Bool) → ends_in bit at_rise ≡ true → some_before (ends_in bit) cells (either_delay s) p ≡ true
  by_rise bit h = before_from (ends_in bit) cells (either_delay s) p s.rise.min (omega arith) (omega arith) h

  by_fall : (bit : Bool) → ends_in bit at_fall ≡ true → some_before (ends_in bit) cells (either_delay s) p ≡ true
  by_fall bit h = before_from (ends_in bit) cells (either_delay s) p s.fall.min (omega arith) (omega arith) h

  -- both slots end in it
  by_both : (bit is_longer : Bool) → ends_in bit at_rise ≡ true → ends_in bit at_fall ≡ true → may_be bit is_longer s cells p ≡ true
  by_both bit true h h' =
      and_from (some_before (ends_in bit) cells s.rise p) (some_before (ends_in bit) cells s.fall p)
      (before_from (ends_in bit) cells s.rise p s.rise.min (omega arith) rise h)
      (before_from (ends_in bit) cells s.fall p s.fall.min (omega arith) fall h')
  by_both bit false h h' = by_rise bit h

  mixed : (bit a b : Bool) → (a ≡ true → b ≡ true → at_rise ≡ at_fall) → ends_in bit at_rise ≡ true → ends_in (not bit) at_fall ≡ true →
      (may_be bit a s cells p ≡ true) ⊎ (may_be (not bit) b s cells p ≡ true)
  mixed bit false b same h h' = inl (by_rise bit h)
  mixed bit true false same h h' = inr (by_fall (not bit) h')
  mixed bit true true same h h' = inl (by_both bit true h (ap (ends_in bit) (sym (same refl refl)) ∙ h))

  -- if each delay is the longer one whatever both are, they are one delay
  one_slot : nat_le s.fall.max s.rise.min ≡ true → nat_le s.rise.max s.fall.min ≡ true → at_rise ≡ at_fall
  one_slot h h' =
      let l : s.fall.max ≤ s.rise.min = leb-true s.fall.max s.rise.min h in
      let l' : s.rise.max ≤ s.fall.min = leb-true s.rise.max s.fall.min h' in
      ap (earlier values cells p) (let e : s.rise.min ≡ s.fall.min = omega (arith, l, l', rise, fall) in e)

  left : (ends_in true at_rise ≡ true) ⊎ (ends_in false at_rise ≡ true) → (ends_in true at_fall ≡ true) ⊎ (ends_in false at_fall ≡ true) →
      (may_be_one s cells p ≡ true) ⊎ (may_be_zero s cells p ≡ true)
  left (inl h) (inl h') = inl (by_both true (nat_le s.fall.max s.rise.min) h h')
  left (inr h) (inr h') = inr (by_both false (nat_le s.rise.max s.fall.min) h h')
  left (inl h) (inr h') = mixed true (nat_le s.fall.max s.rise.min) (nat_le s.rise.max s.fall.min) one_slot h h'
  left (inr h) (inl h') = turned (mixed false (nat_le s.rise.max s.fall.min) (nat_le s.fall.max s.rise.min) (λ a b. one_slot b a) h h')
    where
      turned : (may_be false (nat_le s.rise.max s.fall.min) s cells p ≡ true) ⊎ (may_be true (nat_le s.fall.max s.rise.min) s cells p ≡ true) →
          (may_be_one s cells p ≡ true) ⊎ (may_be_zero s cells p ≡ true)
      turned (inl e) = inr e
      turned (inr e) = inl e

pub some_bit : SomeBitIsLeft
some_bit s cells p rise fall = left s cells p rise fall (ends_some (earlier values cells p s.rise.min)) (ends_some (earlier values cells p s.fall.min))
