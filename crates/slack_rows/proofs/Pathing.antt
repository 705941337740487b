-- The pins that paths go by, and the places that are worked out.
use Rattle.std.proofs.Common.{◌≡◌, ℕ, ◌<◌, List, [], ◌∷◌, length, slice_get, refl, subst, Option, Some, None}
use Rattle.std.specs.List.{All}
use Rattle.std.proofs.lemmas.List.Elements.{All-nil, All-cons, All-get_or, All-head, All-tail}
use Rattle.std.proofs.lemmas.Option.{get_or_from_slice_get, slice_get_within}
use Rattle.vector_names.specs.declared.bits.Target.{Target}
use Rattle.vector_names.specs.declared.bits.Target.TheVariants.{Net as OnNet}
use Rattle.flat_circuit.specs.declared.instance.Instance.{Instance}
use Rattle.flat_circuit.specs.declared.instance.Pin.{Pin}
use Rattle.flat_circuit.specs.Circuit.{Circuit, IsCircuit}
use Rattle.flat_circuit.specs.Instances.{InstanceFits, PinExists, TargetExists}
use Rattle.critical_paths.specs.declared.arrival.Known.{Known}
use Rattle.critical_paths.specs.declared.arrival.Place.{Place}
use Rattle.critical_paths.specs.Event.{other_corner}
use Rattle.critical_paths.specs.Reached.{StaysKnown}
use Rattle.critical_paths.specs.Views.{IsPin}
use Rattle.slack_rows.specs.Arrived.{AreWorkedOut}
use Rattle.critical_paths.specs.declared.direction.Corner.{Corner}
use Rattle.critical_paths.specs.declared.direction.Corner.TheVariants.{Late, Early}
use Rattle.slack_rows.specs.declared.held.Held.{Held}
use Rattle.slack_rows.specs.declared.window.Window.{Window}
use Rattle.slack_rows.specs.Held.{IsHeld, step_held}

-- ---- pins of a circuit

fits_at : (c : Circuit) (k : ℕ) (j : Instance) → IsCircuit c → slice_get c.instances k ≡ Some j → InstanceFits c.header (length c.nets) j
fits_at c k j known at =
    subst (InstanceFits c.header (length c.nets)) (get_or_from_slice_get c.instances k j j at)
    (All-get_or (InstanceFits c.header (length c.nets)) c.instances k j (slice_get_within c.instances k j at) known.each)

exists_on : (n i : ℕ) (target : Target) → target ≡ OnNet i → TargetExists n target → i < n
exists_on n i target is exists = subst (TargetExists n) is exists

all_pins : (c : Circuit) (pins : List Pin) → All (PinExists (length c.nets)) pins → All (IsPin c) pins
all_pins c [] all = All-nil (IsPin c)
all_pins c (p ∷ pins) all =
    All-cons (IsPin c) p pins (λ i is. exists_on (length c.nets) i p.target is (All-head (PinExists (length c.nets)) p pins all))
    (all_pins c pins (All-tail (PinExists (length c.nets)) p pins all))

pub pins_exist : (c : Circuit) (k : ℕ) (j : Instance) → IsCircuit c → slice_get c.instances k ≡ Some j → All (IsPin c) j.pins
pins_exist c k j known at = all_pins c j.pins (fits_at c k j known at).exists.reads

pub pin_at : (c : Circuit) (pins : List Pin) (k : ℕ) (pin : Pin) → All (IsPin c) pins → slice_get pins k ≡ Some pin → IsPin c pin
pin_at c pins k pin all at =
    subst (IsPin c) (get_or_from_slice_get pins k pin pin at) (All-get_or (IsPin c) pins k pin (slice_get_within pins k pin at) all)

-- data is held against a step of the clock
pub step_pin : (held : Held) (w : Window) (corner : Corner) → (step_held held w corner).pin ≡ held.clock
step_pin held w Late = refl
step_pin held w Early = refl

-- as early as it may come for a last change, and as late for a first one
pub step_corner : (held : Held) (w : Window) (corner : Corner) →
    (step_held held w corner).corner ≡ other_corner corner
step_corner held w Late = refl
step_corner held w Early = refl

pub is_held : (c : Circuit) (pins : List Pin) (held : Held) → All (IsPin c) pins →
    (k : ℕ) × (slice_get pins k ≡ Some held.pin) → (k : ℕ) × (slice_get pins k ≡ Some held.clock) →
    IsHeld c held
is_held c pins held all pin clock = record {
  pin = pin_at c pins pin.0 held.pin all pin.1;
  clock = pin_at c pins clock.0 held.clock all clock.1;
}

-- what is worked out stays so
pub stays_worked : (old new : List (Place × Known)) (place : Option Place) → StaysKnown old new →
    AreWorkedOut old place → AreWorkedOut new place
stays_worked old new None stays worked = worked
stays_worked old new (Some place) stays worked = stays place worked

pub stays_two : (old new : List (Place × Known)) (late early : Option Place) → StaysKnown old new →
    AreWorkedOut old late → AreWorkedOut new early → AreWorkedOut new late × AreWorkedOut new early
stays_two old new late early stays one two = (stays_worked old new late stays one, two)
