-- Runs of one change function: its output may step only if some pin has stepped from its
-- greatest to its least delay before, and need not step then.
use Rattle.std.proofs.Common.{true, false, List, [], ◌∷◌, map, refl}
use Prim.Native.String.{String}
use Rattle.scald_base.specs.Time.{Bounds}
use Rattle.element_kinds.specs.declared.kind.Kind.TheVariants.{Chg}
use Rattle.flat_circuit.specs.declared.instance.Pin.{Pin}
use Rattle.flat_circuit.specs.Circuit.{Circuit}
use Rattle.flat_circuit.specs.Run.{Run}
use Rattle.flat_circuit.proofs.RunTables.{bounds, input, driven_by, on, not_on, constant, element, complemented, circuit, late, run, AreRuns, AreNone, Fixes, runs, none, fixes}

abbrev change : Bounds → List Pin → Circuit
change delay pins = circuit (driven_by 0 ∷ input ∷ input ∷ []) (element Chg delay pins 0 ∷ [])

abbrev one_pin : Circuit
one_pin = change (bounds 1 3) (on 1 ∷ [])

-- The pin steps at tick 5 alone, and the delay is of 1 to 3 ticks: these outputs.
abbrev after_one_step : List String → List Run
after_one_step outputs = map (λ output. run (late 0 (0 ∷ []) ∷ [])
    (output ∷ "0000011111" ∷ "0000000000" ∷ [])) outputs

-- none; at 6, 7 and 8 alone, and in each other pair and in all; of either bit; at 1, 2 and 3, at
-- which nothing is asked
may_step : AreRuns one_pin (after_one_step
    ("0000000000" ∷ "1111111111" ∷
    "0000001111" ∷ "0000000111" ∷ "0000000011" ∷ "1111110000" ∷
    "0000001000" ∷ "0000001100" ∷ "0000000100" ∷ "0000001011" ∷
    "0111111111" ∷ "0011111111" ∷ "0001111111" ∷ "0101111011" ∷ []))
may_step = runs refl

-- at 4, the first tick that is asked, at 5 and at 9
may_not_step : AreNone one_pin (after_one_step
    ("0000111111" ∷ "1111000000" ∷ "0000011111" ∷ "0000000001" ∷ "1111111110" ∷ "0000001010" ∷ []))
may_not_step = none refl

-- Of steps at ticks 4 and 5 the first shows after 1 tick and the second after 3, or both after 2:
-- no one delay is chosen, whatever stands in its place.
delays_vary : AreRuns one_pin
    (run (late 0 (0 ∷ []) ∷ []) ("0000011100" ∷ "0000100000" ∷ "0000000000" ∷ [])
    ∷ run (late 1 (0 ∷ []) ∷ []) ("0000001000" ∷ "0000100000" ∷ "0000000000" ∷ [])
    ∷ run (late 4 (0 ∷ []) ∷ []) ("0000011011" ∷ "0000100000" ∷ "0000000000" ∷ [])
    ∷ run (late 4096 (0 ∷ []) ∷ []) ("0000010101" ∷ "0000101000" ∷ "0000000000" ∷ []) ∷ [])
delays_vary = runs refl

-- A wire of 2 is counted before the delay, so tick 6 is the first that is asked: the net steps at
-- 3, the pin at 5.
late_pin : AreRuns one_pin
    (run (late 0 (2 ∷ []) ∷ []) ("0000001011" ∷ "0001111111" ∷ "0000000000" ∷ [])
    ∷ run (late 0 (2 ∷ []) ∷ []) ("0000000011" ∷ "0001111111" ∷ "0000000000" ∷ [])
    ∷ run (late 0 (2 ∷ []) ∷ []) ("0101011111" ∷ "0000000000" ∷ "0000000000" ∷ []) ∷ [])
late_pin = runs refl

late_pin_may_not : AreNone one_pin
    (run (late 0 (2 ∷ []) ∷ []) ("0000001111" ∷ "0000000000" ∷ "0000000000" ∷ [])
    ∷ run (late 0 (2 ∷ []) ∷ []) ("0000001111" ∷ "0000111111" ∷ "0000000000" ∷ [])
    ∷ run (late 0 (2 ∷ []) ∷ []) ("0000000001" ∷ "0001111111" ∷ "0000000000" ∷ []) ∷ [])
late_pin_may_not = none refl

-- A step of any pin counts, a complemented one too. The second wire is the longer, so tick 5 is the
-- first that is asked.
abbrev two_pins : Circuit
two_pins = change (bounds 1 3) (on 1 ∷ not_on 2 ∷ [])

any_pin : AreRuns two_pins
    (run (late 0 (0 ∷ 1 ∷ []) ∷ []) ("0000001000" ∷ "0000011111" ∷ "0000000000" ∷ [])
    ∷ run (late 0 (0 ∷ 1 ∷ []) ∷ []) ("0000000101" ∷ "0000000000" ∷ "0000011111" ∷ [])
    ∷ run (late 0 (0 ∷ 1 ∷ []) ∷ []) ("1111000000" ∷ "0000000000" ∷ "1111111111" ∷ []) ∷ [])
any_pin = runs refl

no_pin : AreNone two_pins
    (run (late 0 (0 ∷ 1 ∷ []) ∷ []) ("0000011111" ∷ "0000000000" ∷ "1111111111" ∷ [])
    ∷ run (late 0 (0 ∷ 1 ∷ []) ∷ []) ("0000001000" ∷ "0000000000" ∷ "0000011111" ∷ [])
    ∷ run (late 0 (0 ∷ 1 ∷ []) ∷ []) ("0000000001" ∷ "0000011111" ∷ "0000000000" ∷ []) ∷ [])
no_pin = none refl

-- Without a delay the output steps with the pin alone, if it does.
at_once : AreRuns (change (bounds 0 0) (on 1 ∷ []))
    (run (late 0 (0 ∷ []) ∷ []) ("0011" ∷ "0011" ∷ "0000" ∷ [])
    ∷ run (late 0 (0 ∷ []) ∷ []) ("1100" ∷ "0011" ∷ "0000" ∷ [])
    ∷ run (late 0 (0 ∷ []) ∷ []) ("1111" ∷ "0011" ∷ "0000" ∷ []) ∷ [])
at_once = runs refl

not_at_once : AreNone (change (bounds 0 0) (on 1 ∷ []))
    (run (late 0 (0 ∷ []) ∷ []) ("0111" ∷ "0011" ∷ "0000" ∷ [])
    ∷ run (late 0 (0 ∷ []) ∷ []) ("0001" ∷ "0011" ∷ "0000" ∷ []) ∷ [])
not_at_once = none refl

-- Constants never step; with a greatest delay of 2, tick 3 is the first that is asked.
of_constants : AreRuns (change (bounds 1 2) (constant true ∷ constant false ∷ []))
    (run (late 0 (0 ∷ 0 ∷ []) ∷ []) ("010000" ∷ "010101" ∷ "001100" ∷ []) ∷ [])
of_constants = runs refl

not_of_constants : AreNone (change (bounds 1 2) (constant true ∷ constant false ∷ []))
    (run (late 0 (0 ∷ 0 ∷ []) ∷ []) ("000111" ∷ "010101" ∷ "001100" ∷ []) ∷ [])
not_of_constants = none refl

-- The output's complement steps where the output does.
complemented_output : Fixes
    (circuit (driven_by 0 ∷ input ∷ []) (complemented (element Chg (bounds 1 1) (on 1 ∷ []) 0) ∷
    []))
    (run (late 0 (0 ∷ []) ∷ []) ("111100" ∷ "000111" ∷ [])) 0 "011111"
complemented_output = fixes refl
