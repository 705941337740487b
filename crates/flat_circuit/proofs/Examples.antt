-- Pins, limits and equations of each kind, by their rows, worked out on paper, in the order of the
-- kinds.
use Rattle.std.proofs.Common.{◌≡◌, ℕ, ◌+◌, ◌≤◌, true, false, [], ◌∷◌, map, refl, lit≤, arith}
use Rattle.scald_base.specs.Time.{Header, Bounds}
use Rattle.element_kinds.specs.declared.kind.Kind.TheVariants.{And, Chg, Reg, SetupHold, RiseFall, MinPulse}
use Rattle.element_kinds.specs.Kinds.{kinds, may_split}
use Rattle.flat_circuit.specs.declared.limits.Limits.TheVariants.{None as Unlimited, Edges, Pulses}
use Rattle.flat_circuit.specs.Kind.{pin_counts, LimitsFit}
use Rattle.flat_circuit.specs.Limits.{setup_of, hold_of, high_of, low_of}
use Rattle.flat_circuit.specs.Run.{Within, DelayFits}
use Rattle.flat_circuit.specs.Laws.{looks_back}
use Rattle.flat_circuit.proofs.RunTables.{header}

-- a change function has up to 16 connections of up to 256 bits
counts : map pin_counts kinds
    ≡ (1, 1) ∷ (1, 16) ∷ (1, 16) ∷ (1, 16) ∷ (3, 3) ∷ (6, 6) ∷ (11, 11) ∷ (1, 4096) ∷ (2, 2) ∷ (4, 4)
    ∷ (2, 2) ∷ (4, 4) ∷ (2, 2) ∷ (2, 2) ∷ (1, 1) ∷ []
counts = refl

backwards : map looks_back kinds
    ≡ false ∷ false ∷ false ∷ false ∷ false ∷ false ∷ false ∷ true ∷ true ∷ true ∷ true ∷ true
    ∷ false ∷ false ∷ false ∷ []
backwards = refl

with_two_delays : map may_split kinds
    ≡ true ∷ true ∷ true ∷ true ∷ true ∷ true ∷ true ∷ false ∷ false ∷ false ∷ false ∷ false
    ∷ false ∷ false ∷ false ∷ []
with_two_delays = refl

-- a gate and a register have a delay, a change function and a checker have none
gates_are_late : (d : Bounds) (n : ℕ) → Within d n → DelayFits And d n
gates_are_late d n within = within

registers_are_late : (d : Bounds) (n : ℕ) → DelayFits Reg d n → Within d n
registers_are_late d n fits = fits

changes_have_none : (d : Bounds) (n : ℕ) → DelayFits Chg d n
changes_have_none d n = tt

checkers_have_none : (d : Bounds) (n : ℕ) → DelayFits MinPulse d n
checkers_have_none d n = tt

-- ---- limits, over a period of 8 ticks

abbrev eight_ticks : Header
eight_ticks = header

-- setup and hold are limited together
together : LimitsFit eight_ticks SetupHold (Edges 3 5) × LimitsFit eight_ticks RiseFall (Edges 3 5)
together = (lit≤ tt, lit≤ tt)

too_long : ¬ LimitsFit eight_ticks SetupHold (Edges 3 6) × ¬ LimitsFit eight_ticks RiseFall (Edges 3 6)
too_long = ((λ (fits : 3 + 6 ≤ 8). absurd (omega (arith, fits))), (λ (fits : 3 + 6 ≤ 8). absurd (omega (arith, fits))))

-- each width by itself
each_alone : LimitsFit eight_ticks MinPulse (Pulses 8 8)
each_alone = (lit≤ tt, lit≤ tt)

too_wide : ¬ LimitsFit eight_ticks MinPulse (Pulses 9 0) × ¬ LimitsFit eight_ticks MinPulse (Pulses 0 9)
too_wide = (
  (λ (fits : LimitsFit eight_ticks MinPulse (Pulses 9 0)). let high : 9 ≤ 8 = fits.0 in absurd (omega (arith, high))),
  (λ (fits : LimitsFit eight_ticks MinPulse (Pulses 0 9)). let low : 9 ≤ 8 = fits.1 in absurd (omega (arith, low))),
)

-- a checker has limits of what it checks
of_another : ¬ LimitsFit eight_ticks SetupHold (Pulses 0 0) × ¬ LimitsFit eight_ticks MinPulse (Edges 0 0)
of_another = ((λ fits. fits), (λ fits. fits))

without : ¬ LimitsFit eight_ticks SetupHold Unlimited × ¬ LimitsFit eight_ticks MinPulse Unlimited
without = ((λ fits. fits), (λ fits. fits))

-- and an element has none
an_element : LimitsFit eight_ticks And Unlimited × ¬ LimitsFit eight_ticks And (Edges 0 0)
an_element = (refl, (λ (fits : LimitsFit eight_ticks And (Edges 0 0)). absurd (cc)))

-- ---- one limit of them

ones : (setup_of (Edges 3 5) ≡ 3) × (hold_of (Edges 3 5) ≡ 5) × (high_of (Pulses 3 5) ≡ 3) × (low_of (Pulses 3 5) ≡ 5)
ones = (refl, refl, refl, refl)

-- a limit of the other sort counts for none, nor is there one if nothing is checked
no_others : (map setup_of (Pulses 3 5 ∷ Unlimited ∷ []) ≡ 0 ∷ 0 ∷ [])
    × (map hold_of (Pulses 3 5 ∷ Unlimited ∷ []) ≡ 0 ∷ 0 ∷ [])
    × (map high_of (Edges 3 5 ∷ Unlimited ∷ []) ≡ 0 ∷ 0 ∷ [])
    × (map low_of (Edges 3 5 ∷ Unlimited ∷ []) ≡ 0 ∷ 0 ∷ [])
no_others = (refl, refl, refl, refl)
