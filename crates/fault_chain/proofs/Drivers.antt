-- What holds of all instances holds of the driver of a net.
use Rattle.std.proofs.Common.{◌≡◌, ℕ, All, subst, Option, Some, None}
use Rattle.std.proofs.lemmas.Option.{get_or_from_slice_get, slice_get_within}
use Rattle.flat_circuit.specs.declared.instance.Instance.{Instance}
use Rattle.flat_circuit.specs.Circuit.{Circuit, driver, driver_at, instance_in}

pub driver_passes : (P : Instance → Type 0) (c : Circuit) (i : ℕ) (j : Instance) → All P c.instances → driver c i ≡ Some j → P j
driver_passes P c i j each is = by (driver_at c.nets i) is
  where
    by : (found : Option ℕ) → instance_in c found ≡ Some j → P j
    by None is = absurd (cc)
    by (Some k) is = subst P (get_or_from_slice_get c.instances k j j is) (each k j (slice_get_within c.instances k j is))
