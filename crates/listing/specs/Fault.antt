-- The lines of faults, and their parts. Slots are printed as those of the period.
use Rattle.std.specs.Prelude.{ℕ, ◌%◌, Bool, List, [], ◌∷◌, ◌++◌, codes, decimal, if◌then◌else◌}
use Rattle.std.specs.List.{concat, flat_map}
use Rattle.scald_base.specs.Time.{period}
use Rattle.flat_circuit.specs.declared.fault.PointKind.{PointKind}
use Rattle.flat_circuit.specs.declared.fault.PointKind.TheVariants.{Setup, High, Hold}
use Rattle.flat_circuit.specs.declared.fault.Fault.{Fault}
use Rattle.flat_circuit.specs.declared.fault.Fault.TheVariants.{Point, Width, Hazard, Assertion}
use Rattle.flat_circuit.specs.Circuit.{Circuit}
use Rattle.listing.specs.Names.{net_text, instance_text}

abbrev pub kind_text : PointKind → List ℕ
kind_text Setup = codes "SETUP"
kind_text High = codes "HIGH"
kind_text Hold = codes "HOLD"

abbrev pub level_text : Bool → List ℕ
level_text high = if high then codes "HIGH" else codes "LOW"

abbrev pub slot_text : Circuit → ℕ → List ℕ
slot_text c slot = decimal (slot % period c.header)

-- ---- the parts of a line

-- what kind of fault it is
abbrev pub fault_kind : Fault → List ℕ
fault_kind (Point kind instance edge slot value) = kind_text kind
fault_kind (Width instance high from width) = codes "WIDTH"
fault_kind (Hazard instance slot pin) = codes "HAZARD"
fault_kind (Assertion net slot value) = codes "ASSERT"

-- the checker, the marked instance or the net that has it
abbrev pub fault_element : Circuit → Fault → List ℕ
fault_element c (Point kind instance edge slot value) = instance_text c instance
fault_element c (Width instance high from width) = instance_text c instance
fault_element c (Hazard instance slot pin) = instance_text c instance
fault_element c (Assertion net slot value) = net_text c net

-- where it was found
unfoldable pub fault_place : Circuit → Fault → List ℕ
fault_place c (Point kind instance edge slot value) = concat (
    codes "EDGE " ∷ slot_text c edge ∷ codes " SLOT " ∷ slot_text c slot ∷ codes " VALUE "
    ∷ (value ∷ []) ∷ [])
fault_place c (Width instance high from width) = concat (
    level_text high ∷ codes " FROM " ∷ slot_text c from ∷ codes " WIDTH " ∷ decimal width ∷ [])
fault_place c (Hazard instance slot pin) = concat (
    codes "SLOT " ∷ slot_text c slot ∷ codes " PIN " ∷ decimal pin ∷ [])
fault_place c (Assertion net slot value) = concat (
    codes "SLOT " ∷ slot_text c slot ∷ codes " VALUE " ∷ (value ∷ []) ∷ [])

-- the kind, the element and the place
abbrev pub fault_text : Circuit → Fault → List ℕ
fault_text c f =
    concat (fault_kind f ∷ codes " " ∷ fault_element c f ∷ codes " " ∷ []) ++ fault_place c f

-- the kind and the place, for a line that names the element itself
abbrev pub unnamed_fault : Circuit → Fault → List ℕ
unnamed_fault c f = concat (fault_kind f ∷ codes " " ∷ []) ++ fault_place c f

-- ---- lines

abbrev pub fault_line : Circuit → Fault → List ℕ
fault_line c f = codes "FAULT " ++ fault_text c f ++ 10 ∷ []

-- a line for each, in the order in which they stand
abbrev pub fault_lines : Circuit → List Fault → List ℕ
fault_lines c faults = flat_map (fault_line c) faults
