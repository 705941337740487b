-- The nets on which others depend: through the drivers, from one net to those of its driver's pins.
use Rattle.std.specs.Prelude.{◌≡◌, ◌↔◌, ℕ, ◌+◌, Bool, nat_lt, true, false, ◌&&◌, ◌||◌, List, [], ◌∷◌, ◌++◌, length, slice_get, Option, Some, None}
use Rattle.vector_names.specs.declared.bits.Target.{Target}
use Rattle.vector_names.specs.declared.bits.Target.TheVariants.{Net as OnNet, Constant}
use Rattle.element_kinds.specs.declared.kind.Kind.{Kind}
use Rattle.element_kinds.specs.Kinds.{listens}
use Rattle.flat_circuit.specs.declared.instance.Pin.{Pin}
use Rattle.flat_circuit.specs.declared.instance.Instance.{Instance}
use Rattle.flat_circuit.specs.Circuit.{Circuit, driver}
use Rattle.flat_circuit.specs.Instances.{is_on}
use Rattle.fixpoint_engine.specs.Worklist.{among}
use Rattle.narrowing.specs.declared.cone.Through.{Through}
use Rattle.narrowing.specs.declared.cone.Through.TheVariants.{EachPin, ListeningPins}
use Rattle.narrowing.specs.declared.constraint.Constraint.{Constraint}
use Rattle.narrowing.specs.declared.constraint.Constraint.TheVariants.{Instance as OfInstance, Pulse as OfPulse, Net as OfNet}

-- ---- the nets that a constraint is about

abbrev pub net_of_target : Target → List ℕ
net_of_target (OnNet i) = i ∷ []
net_of_target (Constant b) = []

abbrev pub nets_of_pins : List Pin → List ℕ
nets_of_pins [] = []
nets_of_pins (p ∷ ps) = net_of_target p.target ++ nets_of_pins ps

abbrev pub nets_of_instance : Option Instance → List ℕ
nets_of_instance None = []
nets_of_instance (Some j) = nets_of_pins j.pins

abbrev pub own_nets : Circuit → Constraint → List ℕ
own_nets c (OfInstance k) = nets_of_instance (slice_get c.instances k)
own_nets c (OfPulse k high) = nets_of_instance (slice_get c.instances k)
own_nets c (OfNet i) = i ∷ []

-- ---- the nets behind them

-- whether the pin at a place leads on: any, or one to which the output listens
abbrev pub leads : Through → Kind → ℕ → Bool
leads EachPin kind place = true
leads ListeningPins kind place = listens kind place

-- one of the pins from a place on leads to the net
abbrev pub any_leads : Through → Kind → ℕ → ℕ → List Pin → Bool
any_leads through kind net place [] = false
any_leads through kind net place (p ∷ ps) =
    (leads through kind place && is_on net p.target) || any_leads through kind net (place + 1) ps

-- a driver, if there is one, has such a pin on the net
abbrev pub fed_by : Through → ℕ → Option Instance → Bool
fed_by through net None = false
fed_by through net (Some j) = any_leads through j.kind net 0 j.pins

-- a net of the circuit that is one of these
abbrev pub is_first : ℕ → List ℕ → ℕ → Bool
is_first count nets net = nat_lt net count && among nets net

-- These nets, and with each net those of the pins of its driver that lead on.
pub data Behind (c : Circuit) (through : Through) (nets : List ℕ) : ℕ → Type 0 where
  first : {net : ℕ} → is_first (length c.nets) nets net ≡ true → Behind c through nets net
  fed : {net from : ℕ} → Behind c through nets net → fed_by through from (driver c net) ≡ true →
      Behind c through nets from

-- a set of nets is the set of those
abbrev pub IsBehind : Circuit → Through → List ℕ → (ℕ → Bool) → Type 0
IsBehind c through nets set = (net : ℕ) → (set net ≡ true) ↔ Behind c through nets net
