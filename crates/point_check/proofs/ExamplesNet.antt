-- Breaks of the assertion of a driven net, and what is none, worked out on paper, in a period of
-- eight slots.
use Prim.Native.String.{String}
use Rattle.std.proofs.Common.{ℕ, false, [], ◌∷◌, length, refl, arith, Option, Some, None}
use Rattle.scald_base.specs.Time.{Header}
use Rattle.scald_base.specs.Clock.{back}
use Rattle.scald_base.specs.declared.assertion.ClockSpec.{ClockSpec}
use Rattle.scald_base.specs.declared.assertion.AssertSpec.{AssertSpec}
use Rattle.scald_base.specs.declared.assertion.AssertSpec.TheVariants.{None as Unasserted, Precision, Clock, Stable}
use Rattle.wave_core.specs.Slots.{earlier}
use Rattle.skew_algebra.specs.Wave.{normal}
use Rattle.flat_circuit.specs.declared.net.Net.{Net}
use Rattle.flat_circuit.specs.Circuit.{Circuit}
use Rattle.flat_circuit.specs.Run.{Run}
use Rattle.flat_circuit.proofs.RunTables.{bits, bounds}
use Rattle.fixpoint_engine.proofs.WrittenRuns.{run_of}
use Rattle.point_check.specs.Break.{BreaksNet}
use Rattle.point_check.proofs.Literal.{found, net_breaks, no_net, no_driver, no_assertion, no_such_net}

-- A `.P` clock may come one slot early, and the edges of a `.C` clock one slot late.
abbrev header : Header
header = record { units = 8; ticks = 1; wire = bounds 0 0; pskew = (1, 0); cskew = (0, 1) }

abbrev net : AssertSpec → Option ℕ → Net
net spec driver = record { name = []; bit = 0; spec = spec; wire = bounds 0 0; driver = driver }

abbrev circuit : AssertSpec → Option ℕ → Circuit
circuit spec driver =
    record { header = header; nets = net spec driver ∷ []; instances = []; order = 0 ∷ [] }

abbrev run : String → Run
run x = run_of (length (bits x)) [] (bits x ∷ [])

-- the net is driven, asserts this, and breaks it
abbrev Breaks : AssertSpec → String → ℕ → Type 0
Breaks spec x start = BreaksNet (circuit spec (Some 0)) (run x) 0 start

abbrev still : ℕ → ℕ → AssertSpec
still lo hi = Stable (record { lo = lo; hi = hi } ∷ [])

-- high in the slots 3 and 4, early and late by so much
abbrev high : Option (ℕ × ℕ) → ClockSpec
high skew = record { spans = record { lo = 3; hi = 5 } ∷ []; low = false; skew = skew }

-- ---- `.S2-6` is quiet in the slots 3 to 5

before_quiet : ¬ Breaks (still 2 6) "00111111" 0
unfolding back earlier normal
before_quiet = no_net 0 refl refl (λ driver at. omega (arith, at.begins))

first_quiet : Breaks (still 2 6) "00011111" 0
unfolding back earlier normal
first_quiet = net_breaks 0 3 refl (search found)

last_quiet : Breaks (still 2 6) "00000111" 0
unfolding back earlier normal
last_quiet = net_breaks 0 5 refl (search found)

falls : Breaks (still 2 6) "11111000" 0
unfolding back earlier normal
falls = net_breaks 0 5 refl (search found)

after_quiet : ¬ Breaks (still 2 6) "00000011" 0
unfolding back earlier normal
after_quiet = no_net 0 refl refl (λ driver at. omega (arith, at.begins))

-- in the second period
before_quiet_again : ¬ Breaks (still 2 6) "0000000000111111" 0
unfolding back earlier normal
before_quiet_again = no_net 0 refl refl (λ driver at. omega (arith, at.begins))

first_quiet_again : Breaks (still 2 6) "0000000000011111" 0
unfolding back earlier normal
first_quiet_again = net_breaks 0 11 refl (search found)

always_quiet : Breaks (Stable []) "00000011" 0
unfolding back earlier normal
always_quiet = net_breaks 0 6 refl (search found)

in_slot_zero : Breaks (Stable []) "0000000011" 0
unfolding back earlier normal
in_slot_zero = net_breaks 0 8 refl (search found)

-- ---- at the given tick or later, and in the run

at_the_start : Breaks (still 2 6) "00011111" 3
unfolding back earlier normal
at_the_start = net_breaks 0 3 refl (search found)

before_the_start : ¬ Breaks (still 2 6) "00011111" 4
unfolding back earlier normal
before_the_start = no_net 3 refl refl (λ driver at. omega (arith, at.after))

first_step : Breaks (still 0 6) "01111111" 0
unfolding back earlier normal
first_step = net_breaks 0 1 refl (search found)

last_step : Breaks (still 2 6) "0001" 0
unfolding back earlier normal
last_step = net_breaks 0 3 refl (search found)

past_the_end : ¬ Breaks (still 2 6) "111" 0
unfolding back earlier normal
past_the_end = no_net 0 refl refl (λ driver at. omega (arith, at.begins))

-- ---- `.P3-5`, early by one slot at most: it rises in slot 2 or 3, and falls in slot 4 or 5

precise : ¬ Breaks (Precision (high None)) "0001100000011000" 0
unfolding back earlier normal
precise = no_net 0 refl refl (λ driver at. omega (arith, at.begins))

precise_early : ¬ Breaks (Precision (high None)) "00110000" 0
unfolding back earlier normal
precise_early = no_net 0 refl refl (λ driver at. omega (arith, at.begins))

precise_too_early : Breaks (Precision (high None)) "01100000" 0
unfolding back earlier normal
precise_too_early = net_breaks 0 1 refl (search found)

precise_late : Breaks (Precision (high None)) "00001100" 0
unfolding back earlier normal
precise_late = net_breaks 0 4 refl (search found)

-- no slot is certain to be at 1
precise_low : ¬ Breaks (Precision (high None)) "00000000" 0
unfolding back earlier normal
precise_low = no_net 0 refl refl (λ driver at. omega (arith, at.begins))

exact_low : Breaks (Precision (high (Some (0, 0)))) "00000000" 0
unfolding back earlier normal
exact_low = net_breaks 0 4 refl (search found)

precise_high : Breaks (Precision (high None)) "11111111" 0
unfolding back earlier normal
precise_high = net_breaks 0 1 refl (search found)

precise_own_skew : ¬ Breaks (Precision (high (Some (0, 1)))) "00001100" 0
unfolding back earlier normal
precise_own_skew = no_net 0 refl refl (λ driver at. omega (arith, at.begins))

precise_own_early : Breaks (Precision (high (Some (0, 1)))) "00110000" 0
unfolding back earlier normal
precise_own_early = net_breaks 0 2 refl (search found)

-- ---- `.C3-5`, late by one slot at most: it rises in slot 3 or 4, and falls in slot 5 or 6

clock : ¬ Breaks (Clock (high None)) "0001100000011000" 0
unfolding back earlier normal
clock = no_net 0 refl refl (λ driver at. omega (arith, at.begins))

clock_late : ¬ Breaks (Clock (high None)) "00001100" 0
unfolding back earlier normal
clock_late = no_net 0 refl refl (λ driver at. omega (arith, at.begins))

clock_too_late : Breaks (Clock (high None)) "00000110" 0
unfolding back earlier normal
clock_too_late = net_breaks 0 5 refl (search found)

clock_early : Breaks (Clock (high None)) "00110000" 0
unfolding back earlier normal
clock_early = net_breaks 0 2 refl (search found)

-- each edge by itself
clock_stretched : ¬ Breaks (Clock (high None)) "00011100" 0
unfolding back earlier normal
clock_stretched = no_net 0 refl refl (λ driver at. omega (arith, at.begins))

clock_own_skew : ¬ Breaks (Clock (high (Some (1, 0)))) "00110000" 0
unfolding back earlier normal
clock_own_skew = no_net 0 refl refl (λ driver at. omega (arith, at.begins))

-- ---- nets that nothing drives or that assert nothing

undriven : ¬ BreaksNet (circuit (still 2 6) None) (run "00011111") 0 0
unfolding back earlier normal
undriven = no_driver refl refl

unasserted : ¬ BreaksNet (circuit Unasserted (Some 0)) (run "00011111") 0 0
unfolding back earlier normal
unasserted = no_assertion refl refl

missing : ¬ BreaksNet (circuit (still 2 6) (Some 0)) (run "00011111") 1 0
unfolding back earlier normal
missing = no_such_net refl

driven_by_any : BreaksNet (circuit (still 2 6) (Some 70000)) (run "00011111") 0 0
unfolding back earlier normal
driven_by_any = net_breaks 70000 3 refl (search found)
