-- A circuit, flat: nets, and the elements and checkers between them, each bit by itself.
use Rattle.std.specs.Prelude.{ℕ, ◌≤◌, List, length, map, slice_get, Option, Some, None}
use Rattle.std.specs.List.{All}
use Rattle.scald_base.specs.Time.{Header, Bounds}
use Rattle.scald_base.specs.Fitting.{Fits}
use Rattle.flat_circuit.specs.declared.net.Net.{Net}
use Rattle.flat_circuit.specs.declared.instance.Instance.{Instance}
use Rattle.flat_circuit.specs.Name.{Name, AreDistinct, IsNameOrder}
use Rattle.flat_circuit.specs.Instances.{InstanceFits, AreFew, AreDrivers, most_bits}
use Rattle.flat_circuit.specs.Loop.{IsLooped, HoldsOfNone}

-- Nets and instances go by their numbers, which count from 0. The order is that of the nets' names:
-- their numbers, sorted by name and bit.
pub record Circuit : Type 0 where
  pub header : Header
  pub nets : List Net
  pub instances : List Instance
  pub order : List ℕ

-- the names of nets
abbrev pub net_name : Net → Name
net_name n = record { text = n.name; bit = n.bit }

abbrev pub net_names : List Net → List Name
net_names nets = map net_name nets

-- the wire bounds and the driver of the net of a number
abbrev pub wire_in : Option Net → Bounds
wire_in None = record { min = 0; max = 0 }
wire_in (Some n) = n.wire

abbrev pub wire_at : List Net → ℕ → Bounds
wire_at nets i = wire_in (slice_get nets i)

abbrev pub driver_in : Option Net → Option ℕ
driver_in None = None
driver_in (Some n) = n.driver

abbrev pub driver_at : List Net → ℕ → Option ℕ
driver_at nets i = driver_in (slice_get nets i)

abbrev pub instance_in : Circuit → Option ℕ → Option Instance
instance_in c None = None
instance_in c (Some k) = slice_get c.instances k

-- the instance that drives a net
abbrev pub driver : Circuit → ℕ → Option Instance
driver c i = instance_in c (driver_at c.nets i)

-- What holds of each circuit: no name stands twice, assertions fit, and so do the instances; each
-- net has at most one driver, and no instance is reached from a loop without delay.
pub record IsCircuit (c : Circuit) : Type 0 where
  pub few_nets : length c.nets ≤ most_bits
  pub few : AreFew c.instances
  pub distinct : AreDistinct (net_names c.nets)
  pub asserted : All (λ (n : Net). Fits c.header n.spec) c.nets
  pub each : All (InstanceFits c.header (length c.nets)) c.instances
  pub drivers : AreDrivers c.instances (driver_at c.nets)
  pub no_loop : HoldsOfNone (IsLooped (wire_at c.nets) c.instances) c.instances
  pub by_name : IsNameOrder (net_names c.nets) c.order
