-- LATE: pins of storage and of checkers that what storage launches reaches after more than a
-- period.
use Rattle.std.specs.Prelude.{ℕ, ◌+◌, nat_lt, List, [], ◌∷◌, length, codes, decimal, slice_get, if◌then◌else◌, Option, Some, None}
use Rattle.std.specs.List.{flat_map, range_with_len}
use Rattle.scald_base.specs.Time.{period}
use Rattle.flat_circuit.specs.declared.instance.Instance.{Instance}
use Rattle.flat_circuit.specs.Circuit.{Circuit, wire_at}
use Rattle.listing.specs.Text.{line}
use Rattle.listing.specs.Names.{instance_text, net_text}
use Rattle.drawing_notes.specs.declared.launched.Arrival.{Arrival}
use Rattle.drawing_notes.specs.Pins.{passes, pin_net}

unfoldable pub late_line : Circuit → ℕ → ℕ → ℕ → Arrival → List ℕ
late_line c k place net at_pin = line (
    codes "NOTE LATE " ∷ instance_text c k ∷ codes " PIN " ∷ decimal place ∷ codes " "
    ∷ net_text c net
    ∷ codes " TICKS " ∷ decimal at_pin.ticks ∷ codes " FROM " ∷ instance_text c at_pin.storage ∷ [])

-- the same, after the wire that leads to a pin
abbrev pub behind_wire : Circuit → ℕ → Arrival → Arrival
behind_wire c net a = record { ticks = a.ticks + (wire_at c.nets net).max; storage = a.storage }

abbrev pub late_after : Circuit → ℕ → ℕ → ℕ → Option Arrival → List (List ℕ)
late_after c k place net None = []
late_after c k place net (Some a) =
    if nat_lt (period c.header) (behind_wire c net a).ticks then
    late_line c k place net (behind_wire c net a) ∷ [] else []

-- of a pin that is on this net
abbrev pub late_on : Circuit → (ℕ → Option Arrival) → ℕ → ℕ → Option ℕ → List (List ℕ)
late_on c arrival k place None = []
late_on c arrival k place (Some net) = late_after c k place net (arrival net)

abbrev pub late_of : Circuit → (ℕ → Option Arrival) → ℕ → Option Instance → List (List ℕ)
late_of c arrival k None = []
late_of c arrival k (Some j) =
    if passes j.kind then []
    else flat_map (λ place. late_on c arrival k place (pin_net (slice_get j.pins place)))
    (range_with_len 0 (length j.pins))

abbrev pub late_at : Circuit → (ℕ → Option Arrival) → ℕ → List (List ℕ)
late_at c arrival k = late_of c arrival k (slice_get c.instances k)

-- in the order of expansion, and of one instance in that of its pins
abbrev pub late : Circuit → (ℕ → Option Arrival) → List (List ℕ)
late c arrival = flat_map (late_at c arrival) (range_with_len 0 (length c.instances))
