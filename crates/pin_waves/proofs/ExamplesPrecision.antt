-- Which signals keep a `.P` assertion: the ideal clock, shifted as a whole. The period is four
-- units of two ticks, and the signals were worked out on paper.
use Rattle.std.proofs.Common.{[], ◌∷◌, refl}
use Rattle.scald_base.specs.Clock.{back}
use Rattle.scald_base.specs.declared.assertion.AssertSpec.TheVariants.{Precision}
use Rattle.pin_waves.proofs.Kept.{Keeps, table, OnlyBy, only_by}
use Rattle.pin_waves.proofs.ExamplesPeriod.{interval, header, clock, low_clock, plain_clock}

-- `.P1-2(2,1)`: each offset from two ticks early to one late; not one past either end, a pulse that
-- is longer or shorter, a glitch of a tick, no clock at all, or a second period by another offset
each_offset : Keeps (header 4 2) (Precision (clock (interval 1 2 ∷ []) (2, 1)))
    ("1100000011" ∷ "0110000001" ∷ "0011000000" ∷ "0001100000" ∷ "00110000001100000011" ∷ "" ∷ "0"
    ∷ "1" ∷ [])
    ("1000000110" ∷ "0000110000" ∷ "0011100000" ∷ "0010000000" ∷ "0011010000" ∷ "0000000000"
    ∷ "001100000110" ∷ "00110000001100000010" ∷ [])
unfolding back
each_offset = table refl refl

-- each of them by its own offset, which counts from the earliest
earliest : OnlyBy (header 4 2) (clock (interval 1 2 ∷ []) (2, 1)) "1100000011" 0
unfolding back
earliest = only_by refl

in_time : OnlyBy (header 4 2) (clock (interval 1 2 ∷ []) (2, 1)) "0011000000" 2
unfolding back
in_time = only_by refl

latest : OnlyBy (header 4 2) (clock (interval 1 2 ∷ []) (2, 1)) "0001100000" 3
unfolding back
latest = only_by refl

-- `.P1-2(0,0)`: at once, from tick 0 on
in_time_alone : Keeps (header 4 2) (Precision (clock (interval 1 2 ∷ []) (0, 0)))
    ("0011000000" ∷ "0" ∷ "" ∷ [])
    ("0110000001" ∷ "0001100000" ∷ "1" ∷ [])
unfolding back
in_time_alone = table refl refl

-- `.P1-2`: one tick early to two late, as the header says
by_header : Keeps (header 4 2) (Precision (plain_clock (interval 1 2 ∷ [])))
    ("0110000001" ∷ "0011000000" ∷ "0001100000" ∷ "0000110000" ∷ [])
    ("1100000011" ∷ "0000011000" ∷ [])
unfolding back
by_header = table refl refl

-- `.P1-2(0,7)`: a skew of a whole period lets it come at any offset
any_offset : Keeps (header 4 2) (Precision (clock (interval 1 2 ∷ []) (0, 7)))
    ("0011000000" ∷ "0110000001" ∷ "1000000110" ∷ [])
    ("0111000001" ∷ [])
unfolding back
any_offset = table refl refl

-- `.P1-2(1,0)L`
low : Keeps (header 4 2) (Precision (low_clock (interval 1 2 ∷ []) (1, 0)))
    ("1100111111" ∷ "1001111110" ∷ [])
    ("0011000000" ∷ "1110011111" ∷ "0011111100" ∷ [])
unfolding back
low = table refl refl

-- `.P0-1,2-3(0,0)`
two_pulses : Keeps (header 4 2) (Precision (clock (interval 0 1 ∷ interval 2 3 ∷ []) (0, 0)))
    ("1100110011" ∷ [])
    ("1100000011" ∷ "0000110000" ∷ "1111110011" ∷ [])
unfolding back
two_pulses = table refl refl

-- `.P3-1(0,1)`: over the period's end
over_the_end : Keeps (header 4 2) (Precision (clock (interval 3 1 ∷ []) (0, 1)))
    ("1100001111" ∷ "1110000111" ∷ [])
    ("1000011110" ∷ "1111000011" ∷ "1100001100" ∷ [])
unfolding back
over_the_end = table refl refl
