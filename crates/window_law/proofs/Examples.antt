-- How many ticks are enough, and ticks that are moved, computed.
use Rattle.std.proofs.Common.{◌≡◌, true, false, [], ◌∷◌, refl}
use Rattle.element_kinds.specs.declared.kind.Kind.TheVariants.{And, MinPulse, RiseFall, SetupHold}
use Rattle.flat_circuit.specs.Circuit.{Circuit}
use Rattle.flat_circuit.proofs.RunTables.{bounds, checker, circuit, driven_by, element, input, on}
use Rattle.narrowing.specs.declared.constraint.Constraint.TheVariants.{Instance as OfInstance, Net as OfNet, Pulse as OfPulse}
use Rattle.narrowing.specs.declared.named.Named.TheVariants.{Edge, High, Mark, Pulse, Step}
use Rattle.narrowing.specs.Named.{first_of, last_of}
use Rattle.window_law.specs.Shift.{later_by}
use Rattle.window_law.specs.Window.{IsShort, limits_of, most_ticks}

-- an AND, and checkers whose limits are 1 each, in a period of eight ticks
abbrev small : Circuit
small =
    circuit (input ∷ input ∷ driven_by 0 ∷ [])
    (element And (bounds 1 2) (on 0 ∷ on 1 ∷ []) 2 ∷ checker SetupHold (on 0 ∷ on 2 ∷ [])
    ∷ checker RiseFall (on 0 ∷ on 2 ∷ []) ∷ checker MinPulse (on 2 ∷ []) ∷ [])

limits : (limits_of small (OfInstance 0) ≡ 0) × (limits_of small (OfInstance 1) ≡ 2)
    × (limits_of small (OfPulse 3 true) ≡ 1) × (limits_of small (OfNet 2) ≡ 0)
    × (limits_of small (OfInstance 9) ≡ 0)
limits = (refl, refl, refl, refl, refl)

-- two periods, the limits, and two ticks more
enough : (most_ticks small (OfInstance 1) 30 ≡ 50) × (most_ticks small (OfPulse 3 false) 30 ≡ 49)
    × (most_ticks small (OfNet 2) 0 ≡ 18)
enough = (refl, refl, refl)

-- all constraints are short but that of a clock that rises and next falls
short : IsShort small (OfInstance 0) × IsShort small (OfInstance 1) × IsShort small (OfPulse 3 true)
    × IsShort small (OfNet 2)
short = (tt, tt, tt, tt)

not_short : IsShort small (OfInstance 2) → ⊥
not_short is = is

-- each tick is moved, and the pins stay
moved : (later_by 8 (Edge 9 7) ≡ Edge 17 15) × (later_by 8 (High 1 5 6) ≡ High 9 13 14)
    × (later_by 8 (Pulse 1 4) ≡ Pulse 9 12) × (later_by 8 (Mark 2 0 1) ≡ Mark 10 0 1)
    × (later_by 8 (Step 3) ≡ Step 11) × (later_by 0 (Step 3) ≡ Step 3)
moved = (refl, refl, refl, refl, refl, refl)

-- an input may change before the edge, and then it is the first tick
ends : (first_of (Edge 9 7) ≡ 7) × (last_of (Edge 9 7) ≡ 9) × (first_of (later_by 8 (Edge 9 7)) ≡ 15)
ends = (refl, refl, refl)
