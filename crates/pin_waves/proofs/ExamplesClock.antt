-- Which signals keep a `.C` assertion, if each edge moves by itself in its region. The signals
-- were worked out on paper; a step into tick t lies in slot t.
use Rattle.std.proofs.Common.{[], ◌∷◌, refl}
use Rattle.scald_base.specs.Clock.{back}
use Rattle.scald_base.specs.declared.assertion.AssertSpec.TheVariants.{Clock}
use Rattle.pin_waves.proofs.Kept.{Keeps, table}
use Rattle.pin_waves.proofs.ExamplesPeriod.{interval, header, clock, low_clock, plain_clock}

-- ---- in ten units of one tick

-- `.C2-6(1,2)`: the rise comes in slots 1 to 4 and the fall in slots 5 to 8. These regions touch,
-- so the pulse may be missing. Of the start nothing is asked but its steps.
each_edge : Keeps (header 10 1) (Clock (clock (interval 2 6 ∷ []) (1, 2)))
    ("0011110000" ∷ "0111110000" ∷ "0000110000" ∷ "0000100000" ∷ "0111111100" ∷ "0000111100"
    ∷ "0000000000" ∷ "1111110000" ∷ "111111111"
    ∷ "01111100000000111100" ∷ "001111000001" ∷ "" ∷ "0" ∷ "1" ∷ [])
    ("0000011100" ∷ "0011111110" ∷ "00111100001" ∷ "0011000000" ∷ "0100110000" ∷ "0011110100"
    ∷ "1111111111" ∷ "0011110001"
    ∷ "00111100000000011100" ∷ [])
unfolding back
each_edge = table refl refl

-- `.C2-6(1,1)`: slot 4 lies between the regions, so the net is 1 on both sides of it
between_regions : Keeps (header 10 1) (Clock (clock (interval 2 6 ∷ []) (1, 1)))
    ("0011110000" ∷ "0111110000" ∷ "0001100000" ∷ "0001111000" ∷ "0000" ∷ [])
    ("0000100000" ∷ "0001111100" ∷ "0000000000" ∷ "00000" ∷ [])
unfolding back
between_regions = table refl refl

-- `.C2-6(0,0)`: nothing is asked of the step of an edge itself but that it is not the other one
in_time_alone : Keeps (header 10 1) (Clock (clock (interval 2 6 ∷ []) (0, 0)))
    ("0011110000" ∷ "001" ∷ "000" ∷ "" ∷ "0" ∷ "1" ∷ [])
    ("0111110000" ∷ "0001110000" ∷ "0011111000" ∷ "0011100000" ∷ "01" ∷ "10" ∷ "0000" ∷ [])
unfolding back
in_time_alone = table refl refl

-- `.C0-5(2,1)`: the rise comes in slots 8, 9, 0 and 1, over the period's end
over_the_end : Keeps (header 10 1) (Clock (clock (interval 0 5 ∷ []) (2, 1)))
    ("1111100000" ∷ "0111100000" ∷ "11111000111" ∷ "111110000001111" ∷ [])
    ("0011100000" ∷ "11111001111" ∷ "1111100000001" ∷ [])
unfolding back
over_the_end = table refl refl

-- `.C2-6(1,2)L`: the fall comes in slots 1 to 4 and the rise in slots 5 to 8
low : Keeps (header 10 1) (Clock (low_clock (interval 2 6 ∷ []) (1, 2)))
    ("1100001111" ∷ "1000001111" ∷ "1111011111" ∷ "1100000011" ∷ "1111111111" ∷ [])
    ("0011110000" ∷ "1011001111" ∷ "1100001110" ∷ "1100000001" ∷ "1111101111" ∷ [])
unfolding back
low = table refl refl

-- `.C0-10(12,12)`: a clock without edges has no regions
without_edges : Keeps (header 10 1) (Clock (clock (interval 0 10 ∷ []) (12, 12)))
    ("11111111111111" ∷ "0" ∷ [])
    ("0000000000" ∷ "1110111111" ∷ "01" ∷ [])
unfolding back
without_edges = table refl refl

-- ---- in six units of two ticks

-- `.C2-5`: two ticks early to three late, as the header says of clocks of this kind: the rise at
-- slot 4 comes in slots 2 to 7 and the fall at slot 10 in slots 8 to 11, 0 and 1
by_header : Keeps (header 6 2) (Clock (plain_clock (interval 2 5 ∷ [])))
    ("000011111100" ∷ "001111111100" ∷ "000000011100" ∷ "000011110000" ∷ "00001111111110" ∷ [])
    ("000000001100" ∷ "000011100000" ∷ "000011111111110" ∷ "011111111100" ∷ [])
unfolding back
by_header = table refl refl
