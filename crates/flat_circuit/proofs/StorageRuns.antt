-- Runs of one register or latch. Its output at the tick before counts, so nothing is asked at tick
-- 0.
use Rattle.std.proofs.Common.{[], ◌∷◌, refl}
use Rattle.element_kinds.specs.declared.kind.Kind.{Kind}
use Rattle.element_kinds.specs.declared.kind.Kind.TheVariants.{Reg, RegRs, Latch, LatchRs}
use Rattle.flat_circuit.specs.Circuit.{Circuit}
use Rattle.flat_circuit.proofs.RunTables.{bounds, input, driven_by, on, not_on, element, complemented, circuit, late, run, AreRuns, AreNone, Fixes, runs, none, fixes}

-- an element of any delay up to 9 that drives net 0: a clock or enable, and an input
abbrev storage : Kind → Circuit
storage kind = circuit (driven_by 0 ∷ input ∷ input ∷ [])
    (element kind (bounds 0 9) (on 1 ∷ on 2 ∷ []) 0 ∷ [])

-- the same with a set and a reset
abbrev with_set_reset : Kind → Circuit
with_set_reset kind =
    circuit (driven_by 0 ∷ input ∷ input ∷ input ∷ input ∷ [])
    (element kind (bounds 0 9) (on 1 ∷ on 2 ∷ on 3 ∷ on 4 ∷ []) 0 ∷ [])

-- ---- registers: the input where the clock rises, and at no other tick

register : Fixes (storage Reg) (run (late 0 (0 ∷ 0 ∷ []) ∷ []) (
    "1000111" ∷
    "0110100" ∷
    "1010101" ∷ [])) 0 "0111111"
register = fixes refl

-- A clock that begins at 1 has not risen, so the output keeps what it began with, either bit.
register_begins_high : Fixes (storage Reg) (run (late 0 (0 ∷ 0 ∷ []) ∷ []) (
    "1110" ∷
    "1101" ∷
    "0000" ∷ [])) 0 "1111"
register_begins_high = fixes refl

register_begins_low : Fixes (storage Reg) (run (late 0 (0 ∷ 0 ∷ []) ∷ []) (
    "0001" ∷
    "1101" ∷
    "1111" ∷ [])) 0 "1111"
register_begins_low = fixes refl

-- A delay of 2, a wire of 1 to the clock and one of 3 to the input: the clock rises at ticks 2 and
-- 5, which the output shows at 5 and 8, and then the input is that of ticks 0 and 3. The input's
-- wire comes last, so tick 5 is the first.
late_register : Fixes (storage Reg) (run (late 2 (1 ∷ 3 ∷ []) ∷ []) (
    "010101110" ∷
    "001101000" ∷
    "100011111" ∷ [])) 0 "000001111"
late_register = fixes refl

-- A wire of 3 to the clock and a delay of 1: the clock's bit before its step lies 5 ticks back, so
-- tick 5 is the first that is asked, and at tick 4 the output steps without a rise.
late_clock : Fixes (storage Reg) (run (late 1 (3 ∷ 0 ∷ []) ∷ []) (
    "0011011" ∷
    "0100000" ∷
    "0000100" ∷ [])) 0 "0000011"
late_clock = fixes refl

-- the clock's complement, so its falls count, and an output that is complemented
complemented_register : Fixes
    (circuit (driven_by 0 ∷ input ∷ input ∷ []) (complemented
    (element Reg (bounds 0 9) (not_on 1 ∷ on 2 ∷ []) 0) ∷ []))
    (run (late 0 (0 ∷ 0 ∷ []) ∷ []) (
    "110001" ∷
    "110010" ∷
    "111000" ∷ [])) 0 "111111"
complemented_register = fixes refl

-- ---- latches: the input if the enable is 1

latch : Fixes (storage Latch) (run (late 0 (0 ∷ 0 ∷ []) ∷ []) (
    "111011" ∷
    "100110" ∷
    "010010" ∷ [])) 0 "111111"
latch = fixes refl

-- nothing is asked at tick 0, if the enable is 1 and the input is another bit
latch_begins_anyhow : Fixes (storage Latch) (run (late 0 (0 ∷ 0 ∷ []) ∷ []) (
    "1001" ∷
    "1101" ∷
    "0011" ∷ [])) 0 "0111"
latch_begins_anyhow = fixes refl

-- A delay of 1, a wire of 2 to the enable and none to the input: the enable is that of three ticks
-- before.
late_latch : Fixes (storage Latch) (run (late 1 (2 ∷ 0 ∷ []) ∷ []) (
    "1101100" ∷
    "1010110" ∷
    "0010000" ∷ [])) 0 "0001111"
late_latch = fixes refl

-- ---- set and reset

-- Each pair, at a rise of the clock and where it does not rise. Where both are 1, at ticks 7 and 8,
-- the output is any.
register_set_reset : Fixes (with_set_reset RegRs) (run (late 0 (0 ∷ 0 ∷ 0 ∷ 0 ∷ []) ∷ []) (
    "0101100101" ∷
    "0101010101" ∷
    "0100010001" ∷
    "0001000110" ∷
    "0010010110" ∷ [])) 0 "0111111001"
register_set_reset = fixes refl

-- Behind two ticks with both set and reset the output keeps what it had at the second, either bit.
register_after_both : AreRuns (with_set_reset RegRs)
    (run (late 0 (0 ∷ 0 ∷ 0 ∷ 0 ∷ []) ∷ []) ("0000" ∷ "1111" ∷ "0000" ∷ "0110" ∷ "0110" ∷ [])
    ∷ run (late 0 (0 ∷ 0 ∷ 0 ∷ 0 ∷ []) ∷ []) ("0011" ∷ "1111" ∷ "0000" ∷ "0110" ∷ "0110" ∷ [])
    ∷ run (late 0 (0 ∷ 0 ∷ 0 ∷ 0 ∷ []) ∷ []) ("0100" ∷ "1111" ∷ "0000" ∷ "0110" ∷ "0110" ∷ [])
    ∷ run (late 0 (0 ∷ 0 ∷ 0 ∷ 0 ∷ []) ∷ []) ("1111" ∷ "1111" ∷ "0000" ∷ "0110" ∷ "0110" ∷ []) ∷ [])
register_after_both = runs refl

latch_set_reset : Fixes (with_set_reset LatchRs) (run (late 0 (0 ∷ 0 ∷ 0 ∷ 0 ∷ []) ∷ []) (
    "110110100" ∷
    "010101101" ∷
    "010001000" ∷
    "000100110" ∷
    "001001110" ∷ [])) 0 "011111001"
latch_set_reset = fixes refl

-- A set that comes by a wire of 3 is asked from tick 3 on, at which it shows tick 0; the reset's
-- wire has 1 tick.
late_set : Fixes (with_set_reset LatchRs) (run (late 0 (0 ∷ 0 ∷ 3 ∷ 1 ∷ []) ∷ []) (
    "0101000" ∷
    "1111111" ∷
    "0000011" ∷
    "1000000" ∷
    "0000110" ∷ [])) 0 "0001111"
late_set = fixes refl

-- the same of a register, whose clock does not rise
late_reset : Fixes (with_set_reset RegRs) (run (late 1 (0 ∷ 0 ∷ 0 ∷ 2 ∷ []) ∷ []) (
    "1111000" ∷
    "0000000" ∷
    "1111111" ∷
    "0000000" ∷
    "0100000" ∷ [])) 0 "0011111"
late_reset = fixes refl

-- Four outputs at ticks at which set and reset say what it is, and the other bit.
set_and_reset : AreRuns (with_set_reset LatchRs)
    (run (late 0 (0 ∷ 0 ∷ 0 ∷ 0 ∷ []) ∷ []) ("00" ∷ "11" ∷ "00" ∷ "00" ∷ "00" ∷ [])
    ∷ run (late 0 (0 ∷ 0 ∷ 0 ∷ 0 ∷ []) ∷ []) ("00" ∷ "11" ∷ "11" ∷ "00" ∷ "01" ∷ [])
    ∷ run (late 0 (0 ∷ 0 ∷ 0 ∷ 0 ∷ []) ∷ []) ("01" ∷ "11" ∷ "00" ∷ "01" ∷ "00" ∷ [])
    ∷ run (late 0 (0 ∷ 0 ∷ 0 ∷ 0 ∷ []) ∷ []) ("00" ∷ "11" ∷ "00" ∷ "01" ∷ "01" ∷ [])
    ∷ run (late 0 (0 ∷ 0 ∷ 0 ∷ 0 ∷ []) ∷ []) ("01" ∷ "11" ∷ "00" ∷ "01" ∷ "01" ∷ []) ∷ [])
set_and_reset = runs refl

against_set_and_reset : AreNone (with_set_reset LatchRs)
    (run (late 0 (0 ∷ 0 ∷ 0 ∷ 0 ∷ []) ∷ []) ("01" ∷ "11" ∷ "00" ∷ "00" ∷ "00" ∷ [])
    ∷ run (late 0 (0 ∷ 0 ∷ 0 ∷ 0 ∷ []) ∷ []) ("01" ∷ "11" ∷ "11" ∷ "00" ∷ "01" ∷ [])
    ∷ run (late 0 (0 ∷ 0 ∷ 0 ∷ 0 ∷ []) ∷ []) ("00" ∷ "11" ∷ "00" ∷ "01" ∷ "00" ∷ []) ∷ [])
against_set_and_reset = none refl
