-- Which signals keep a `.S` assertion, or none: they make no step in a quiet slot. The period is
-- four units of three ticks, and the signals were worked out on paper; a step into tick t lies in
-- slot t.
use Rattle.std.proofs.Common.{[], ◌∷◌, refl}
use Rattle.scald_base.specs.Clock.{back}
use Rattle.scald_base.specs.declared.assertion.AssertSpec.TheVariants.{None as Unasserted, Stable}
use Rattle.pin_waves.proofs.Kept.{Keeps, table}
use Rattle.pin_waves.proofs.ExamplesPeriod.{interval, header}

-- `.S1-3`: the ticks 3 to 8 are equal, so a step may be into tick 3 or into tick 9, and none
-- between; the same in the next period
at_both_ends : Keeps (header 4 3) (Stable (interval 1 3 ∷ []))
    ("000111111111" ∷ "000000000111" ∷ "010111111010" ∷ "0101111110101" ∷ "0000000000001"
    ∷ "0000000000000001" ∷ "" ∷ "0" ∷ "1" ∷ "01" ∷ [])
    ("000011111111" ∷ "000000001111" ∷ "000001000000" ∷ "00000000000000001" ∷ "11110" ∷ [])
unfolding back
at_both_ends = table refl refl

-- `.S` alone, and no assertion: constant, over the period's end too
constant : Keeps (header 4 3) (Stable [])
    ("00000000000000" ∷ "11111111111111" ∷ "" ∷ "0" ∷ "1" ∷ [])
    ("01" ∷ "10" ∷ "000001" ∷ "1111111111110" ∷ "0000100000" ∷ [])
unfolding back
constant = table refl refl

unasserted : Keeps (header 4 3) Unasserted
    ("00000000000000" ∷ "11111111111111" ∷ "" ∷ "0" ∷ "1" ∷ [])
    ("01" ∷ "10" ∷ "000001" ∷ "1111111111110" ∷ "0000100000" ∷ [])
unasserted = table refl refl

-- `.S0-4`: a step where the period begins alone
all_but_zero : Keeps (header 4 3) (Stable (interval 0 4 ∷ []))
    ("000000000000111111111111" ∷ [])
    ("000000000001" ∷ "01" ∷ "00000000000001" ∷ [])
unfolding back
all_but_zero = table refl refl

-- `.S0-2,2-4`: a step where they touch
touching : Keeps (header 4 3) (Stable (interval 0 2 ∷ interval 2 4 ∷ []))
    ("000000111111" ∷ [])
    ("000001111111" ∷ "000000011111" ∷ [])
unfolding back
touching = table refl refl

-- `.S0-1,2-3`
two : Keeps (header 4 3) (Stable (interval 0 1 ∷ interval 2 3 ∷ []))
    ("000111000111" ∷ "000010000101" ∷ "000000111000" ∷ [])
    ("011111111111" ∷ "001111111111" ∷ "000000011111" ∷ "000000001111" ∷ [])
unfolding back
two = table refl refl

-- `.S3-1`: over the period's end, from tick 9 to tick 14
over_the_end : Keeps (header 4 3) (Stable (interval 3 1 ∷ []))
    ("000000000111" ∷ "000111111111" ∷ "000101010111" ∷ "0000000000000001" ∷ [])
    ("000000000011" ∷ "001111111111" ∷ "011111111111" ∷ "0000000000001" ∷ "000000000000001" ∷ [])
unfolding back
over_the_end = table refl refl

-- `.S3-0`: to the period's end
to_the_end : Keeps (header 4 3) (Stable (interval 3 0 ∷ []))
    ("0000000000001" ∷ "0000000001" ∷ [])
    ("00000000001" ∷ "000000000001" ∷ [])
unfolding back
to_the_end = table refl refl
