-- Pulses, by what a signal shows: bits that are not one bit are the other.
use Rattle.std.proofs.Common.{◌≡◌, ℕ, ◌-◌, ◌<◌, ◌≤◌, Bool, true, false, true≢false, not, refl, arith}
use Rattle.std.proofs.lemmas.Bool.{false≢true}
use Rattle.scald_base.specs.Signal.{Signal}
use Rattle.pulse_check.specs.Break.{IsPulse}

pub other : (a b : Bool) → (a ≡ b → ⊥) → a ≡ not b
other true true apart = absurd (apart refl)
other true false apart = refl
other false true apart = refl
other false false apart = absurd (apart refl)

-- a pulse, by what a signal shows before it, in it and after it
pub is_pulse : (x : Signal) (bit : Bool) (start end : ℕ) → (x (start - 1) ≡ bit → ⊥) → start < end →
    ((t : ℕ) → start ≤ t → t < end → x t ≡ bit) → (x end ≡ bit → ⊥) → IsPulse x bit start end
is_pulse x bit start end before ordered during behind = record {
  before = other (x (start - 1)) bit before;
  ordered = ordered;
  during = during;
  behind = other (x end) bit behind;
}

-- ---- what is none

not_both : (a bit : Bool) → a ≡ bit → a ≡ not bit → ⊥
not_both true true one two = true≢false two
not_both true false one two = true≢false one
not_both false true one two = false≢true one
not_both false false one two = false≢true two

-- the signal has the bit before it, leaves it within, stays at its end, or has no tick
pub not_before : (x : Signal) (bit : Bool) (start end : ℕ) → x (start - 1) ≡ bit →
    IsPulse x bit start end → ⊥
not_before x bit start end here pulse = not_both (x (start - 1)) bit here pulse.before

pub not_during : (x : Signal) (bit : Bool) (start end t : ℕ) → start ≤ t → t < end →
    (x t ≡ bit → ⊥) → IsPulse x bit start end → ⊥
not_during x bit start end t from before apart pulse = apart (pulse.during t from before)

pub not_behind : (x : Signal) (bit : Bool) (start end : ℕ) → x end ≡ bit →
    IsPulse x bit start end → ⊥
not_behind x bit start end here pulse = not_both (x end) bit here pulse.behind

pub not_ordered : (x : Signal) (bit : Bool) (start end : ℕ) → end ≤ start →
    IsPulse x bit start end → ⊥
not_ordered x bit start end late pulse = absurd (omega (arith, late, pulse.ordered))
