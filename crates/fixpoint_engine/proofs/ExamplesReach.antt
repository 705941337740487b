-- How far circuits look back, where rounds begin, and when they settle, worked out on paper.
use Rattle.std.proofs.Common.{◌≡◌, ℕ, zero, suc, ◌<◌, ◌≤◌, ◌==◌, min, true, false, if◌then◌else◌, List, [], ◌∷◌, map, Some, None, refl, ap, arith}
use Rattle.scald_base.specs.Clock.{back}
use Rattle.scald_base.specs.declared.assertion.AssertSpec.TheVariants.{None as Unasserted}
use Rattle.vector_names.specs.declared.bits.Target.TheVariants.{Constant}
use Rattle.step_values.specs.declared.value.Value.{Value}
use Rattle.step_values.specs.declared.value.Value.TheVariants.{Zero, One, S, C, R, F, U}
use Rattle.wave_core.specs.Slots.{earlier}
use Rattle.skew_algebra.specs.Wave.{Wave, skewed, normal}
use Rattle.element_kinds.specs.declared.kind.Kind.TheVariants.{Buf, And, Or, Xor, Mux2, Mux4, Mux8, Chg, Reg, RegRs, Latch, LatchRs, SetupHold, RiseFall, MinPulse}
use Rattle.flat_circuit.specs.declared.instance.Pin.{Pin}
use Rattle.flat_circuit.specs.declared.instance.Instance.{Instance}
use Rattle.flat_circuit.specs.declared.net.Net.{Net}
use Rattle.flat_circuit.specs.declared.split.Split.{Split}
use Rattle.flat_circuit.specs.Split.{either_delay}
use Rattle.fixpoint_engine.proofs.ExamplesInterface.{bounds, net, element, on, circuit, small}
use Rattle.fixpoint_engine.specs.Rounds.{SettlesAt, IsUnsettled}
use Rattle.fixpoint_engine.specs.Start.{base_start, is_driven}
use Rattle.fixpoint_engine.specs.Reach.{reach, greatest_delay}

-- ---- the reach

no_instance : reach (circuit [] []) ≡ 1
no_instance = refl

-- the register's two ticks and the wire of its clock, and the tick more
of_small : reach small ≡ 5
of_small = refl

abbrev wires : List Net
wires = net Unasserted (bounds 0 2) None ∷ net Unasserted (bounds 1 7) None ∷ []

abbrev tied : Pin
tied = record { target = Constant true; inverted = false; hold = false }

-- the longest wire counts, at whichever pin, and a constant has none
second_wire : reach
    (circuit wires (element And (bounds 0 3) (on 0 ∷ tied ∷ on 1 ∷ []) (Some 0) ∷ [])) ≡ 11
second_wire = refl

only_tied : reach (circuit wires (element And (bounds 0 3) (tied ∷ []) (Some 0) ∷ [])) ≡ 4
only_tied = refl

-- the farthest instance counts, and not the sum of all
second_instance : reach
    (circuit wires
    (element Buf (bounds 0 4) (on 0 ∷ []) (Some 0) ∷ element Buf (bounds 0 3) (on 1 ∷ []) (Some 1)
    ∷ [])) ≡ 11
second_instance = refl

-- with two delays the greater of the greatest rise delay and the greatest fall delay
abbrev split_buffer : Split → Instance
split_buffer s = record (element Buf (either_delay s) (on 0 ∷ []) (Some 1)) { split = Some s }

long_rise : reach (circuit wires (split_buffer (record { rise = bounds 1 9; fall = bounds 0 3 }) ∷ [])) ≡ 12
long_rise = refl

long_fall : reach (circuit wires (split_buffer (record { rise = bounds 2 3; fall = bounds 4 6 }) ∷ [])) ≡ 9
long_fall = refl

-- a checker takes no time by itself
one_checker : reach (circuit wires (element SetupHold (bounds 5 9) (on 0 ∷ on 1 ∷ []) None ∷ []))
    ≡ 8
one_checker = refl

of_each_kind : map (λ kind. greatest_delay (element kind (bounds 1 9) [] None))
    (Buf ∷ And ∷ Or ∷ Xor ∷ Mux2 ∷ Mux4 ∷ Mux8 ∷ Chg ∷ Reg ∷ RegRs ∷ Latch ∷ LatchRs ∷ SetupHold
    ∷ RiseFall ∷ MinPulse ∷ [])
    ≡ 9 ∷ 9 ∷ 9 ∷ 9 ∷ 9 ∷ 9 ∷ 9 ∷ 9 ∷ 9 ∷ 9 ∷ 9 ∷ 9 ∷ 0 ∷ 0 ∷ 0 ∷ []
of_each_kind = refl

-- ---- where the rounds of the base begin: the clock, data, a driven net, a constant, a driven net
-- that asserts, and none

starts : map (base_start small) (0 ∷ 1 ∷ 2 ∷ 3 ∷ 4 ∷ 5 ∷ [])
    ≡ skewed (Zero ∷ R ∷ One ∷ F ∷ Zero ∷ Zero ∷ Zero ∷ Zero ∷ []) 2
    ∷ skewed (C ∷ C ∷ S ∷ S ∷ C ∷ C ∷ C ∷ C ∷ []) 0
    ∷ skewed (U ∷ U ∷ U ∷ U ∷ U ∷ U ∷ U ∷ U ∷ []) 0
    ∷ skewed (S ∷ S ∷ S ∷ S ∷ S ∷ S ∷ S ∷ S ∷ []) 0
    ∷ skewed (U ∷ U ∷ U ∷ U ∷ U ∷ U ∷ U ∷ U ∷ []) 0
    ∷ skewed [] 0 ∷ []
unfolding back earlier normal
starts = refl

driven : map (is_driven small) (0 ∷ 1 ∷ 2 ∷ 3 ∷ 4 ∷ 5 ∷ []) ≡ false ∷ false ∷ true ∷ false ∷ true
    ∷ false ∷ []
driven = refl

-- ---- settling: one net changes up to round 2

abbrev changing : ℕ → ℕ → ℕ → Wave Value
changing net r i = if i == net then skewed [] (min r 2) else skewed [] 0

abbrev wave_in : ℕ → ℕ → Wave Value
wave_in r i = changing 5 r i

apart : (m n : ℕ) → ◌≡◌ {A = Wave Value} (skewed [] m) (skewed [] n) → m ≡ n
apart m n same = ap (λ (w : Wave Value). w.skew) same

settles : SettlesAt wave_in 2 2
settles = record {
  still = λ i. refl;
  first = elim [
    | zero ↦ λ below same. let e : 1 ≡ 0 = apart 1 0 (same 5) in omega (arith, e)
    | suc zero ↦ λ below same. let e : 2 ≡ 1 = apart 2 1 (same 5) in omega (arith, e)
    | suc (suc s) ↦ λ below. absurd (omega (arith, below))
  ];
  within = omega arith;
}

-- not within a limit of one round, nor a round sooner or later
limited : SettlesAt wave_in 1 2 → ⊥
limited is = let within : 2 ≤ 1 = is.within in omega (arith, within)

not_before : SettlesAt wave_in 9 1 → ⊥
not_before is = let e : 2 ≡ 1 = apart 2 1 (is.still 5) in omega (arith, e)

not_later : SettlesAt wave_in 9 3 → ⊥
not_later is = is.first 2 (omega arith) (λ i. refl)

-- with one round allowed, net 5 is the first in this order that still differs, at place 1
unsettled : IsUnsettled (7 ∷ 5 ∷ 5 ∷ 3 ∷ []) wave_in 1 1
unsettled = record {
  never = elim [
    | zero ↦ λ below same. let e : 1 ≡ 0 = apart 1 0 (same 5) in omega (arith, e)
    | suc zero ↦ λ below same. let e : 2 ≡ 1 = apart 2 1 (same 5) in omega (arith, e)
    | suc (suc r) ↦ λ below. absurd (omega (arith, below))
  ];
  first = record {
    below = omega arith;
    differs = λ same. let e : 1 ≡ 2 = apart 1 2 same in omega (arith, e);
    same = elim [ zero ↦ λ below. refl | suc k ↦ λ below. absurd (omega (arith, below)) ];
  };
}

not_the_next : IsUnsettled (7 ∷ 5 ∷ 5 ∷ 3 ∷ []) wave_in 1 2 → ⊥
not_the_next u = let e : 1 ≡ 2 = apart 1 2 (u.first.same 1 (omega arith)) in omega (arith, e)

not_one_that_stays : IsUnsettled (7 ∷ 5 ∷ 5 ∷ 3 ∷ []) wave_in 1 0 → ⊥
not_one_that_stays u = u.first.differs refl

not_with_more : IsUnsettled (7 ∷ 5 ∷ 5 ∷ 3 ∷ []) wave_in 2 1 → ⊥
not_with_more u = u.never 2 (omega arith) (λ i. refl)

-- a place past the order names no net, if net 0 differs too
past_the_order : IsUnsettled (7 ∷ []) (changing 0) 1 1 → ⊥
past_the_order u = let below : 1 < 1 = u.first.below in omega (arith, below)
