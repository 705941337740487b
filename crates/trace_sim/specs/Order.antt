-- The order in which the instances of a circuit are evaluated within a tick.
use Rattle.std.specs.Prelude.{◌≡◌, ℕ, ◌<◌, true, ◌&&◌, ◌==◌, if◌then◌else◌, List, [], ◌∷◌, ◌++◌, length, slice_index_or, Option, Some, None, is_some, option_to_list}
use Rattle.std.specs.List.{All, Contains}
use Rattle.vector_names.specs.declared.bits.Target.{Target}
use Rattle.vector_names.specs.declared.bits.Target.TheVariants.{Net as OnNet, Constant}
use Rattle.flat_circuit.specs.declared.instance.Pin.{Pin}
use Rattle.flat_circuit.specs.declared.net.Net.{Net}
use Rattle.flat_circuit.specs.Instances.{out_at, pins_at, least_delay_at}
use Rattle.flat_circuit.specs.Circuit.{Circuit, wire_at, driver_at}

-- Instance k may read at once what d drives: k may have no delay, nor need the wire have one.
-- Nothing is asked of d's own delay: whatever it is, d's bit at a tick has to be made before k
-- reads it. So this is not `PassesOn`, which asks it of d and not of k; but round a loop each is a
-- reader, and there the two agree.
pub record ReadsAtOnce (c : Circuit) (d k : ℕ) : Type 0 where
  pub net : ℕ
  pub drives : out_at c.instances d ≡ Some (OnNet net)
  pub at_once : least_delay_at c.instances k ≡ 0
  pub wire_at_once : (wire_at c.nets net).min ≡ 0
  pub has_out : is_some (out_at c.instances k) ≡ true
  pub pin : Pin
  pub reads : Contains (pins_at c.instances k) pin
  pub on_net : pin.target ≡ OnNet net

-- All instances, each once, and each after those that it may read at once. Since it goes by the
-- least delays, it is an order for every choice of delays within the bounds.
pub record IsEvaluationOrder (c : Circuit) (order : List ℕ) : Type 0 where
  pub inside : All (λ k. k < length c.instances) order
  pub whole : (k : ℕ) → k < length c.instances → Contains order k
  pub once : (a b : ℕ) → a < length order → b < length order →
      slice_index_or order a 0 ≡ slice_index_or order b 0 → a ≡ b
  pub after : (a b : ℕ) → a < length order → b < length order →
      ReadsAtOnce c (slice_index_or order a 0) (slice_index_or order b 0) → a < b

-- ---- the same by lists, as the search takes it

-- the driver of the net that a pin is on, if its wire may have no delay
abbrev pub at_once_driver : List Net → Target → Option ℕ
at_once_driver nets (Constant b) = None
at_once_driver nets (OnNet i) = if (wire_at nets i).min == 0 then driver_at nets i else None

abbrev pub at_once_list : List Net → List Pin → List ℕ
at_once_list nets [] = []
at_once_list nets (p ∷ ps) = option_to_list (at_once_driver nets p.target) ++ at_once_list nets ps

-- the drivers that instance k may read at once
abbrev pub feeders_in : Circuit → ℕ → List ℕ
feeders_in c k =
    if is_some (out_at c.instances k) && least_delay_at c.instances k == 0
    then at_once_list c.nets (pins_at c.instances k)
    else []
