-- The instances that drive nets.
use Rattle.std.proofs.Common.{◌≡◌, ℕ, zero, suc, ◌<◌, ◌≤◌, Bool, true, false, List, [], ◌∷◌, length, refl, sym, ap, ◌∙◌, arith, slice_get, Option, Some, None, is_some}
use Rattle.std.proofs.lemmas.Bool.{and_parts, false_from_ne_true}
use Rattle.vector_names.specs.declared.bits.Target.TheVariants.{Net as OnNet}
use Rattle.flat_circuit.specs.declared.instance.Instance.{Instance}
use Rattle.flat_circuit.specs.declared.net.Net.{Net}
use Rattle.element_kinds.specs.Kinds.{has_output}
use Rattle.flat_circuit.specs.Instances.{InstanceFits, out_of}
use Rattle.flat_circuit.specs.Circuit.{Circuit, IsCircuit, driver_at, instance_in, driver}
use Rattle.flat_circuit.proofs.Numbered.{fits_of}
use Rattle.fixpoint_engine.specs.Settled.{marked_in, FitActive}
use Rattle.fixpoint_engine.specs.Members.{leads_in, is_evaluated}

pub makes_of : (c : Circuit) (k i : ℕ) (j : Instance) → IsCircuit c → slice_get c.instances k ≡ Some j → j.out ≡ Some (OnNet i) → has_output j.kind ≡ true
makes_of c k i j known is out = sym (fits_of c k j known is).has_out ∙ ap is_some out

pub driver_fits : (c : Circuit) (i : ℕ) (j : Instance) → IsCircuit c → driver c i ≡ Some j → InstanceFits c.header (length c.nets) j
driver_fits c i j known is = by (driver_at c.nets i) is
  where
    by : (found : Option ℕ) → instance_in c found ≡ Some j → InstanceFits c.header (length c.nets) j
    by None is = cc
    by (Some k) is = fits_of c k j known is

pub driver_makes : (c : Circuit) (i : ℕ) (j : Instance) → IsCircuit c → driver c i ≡ Some j → has_output j.kind ≡ true
driver_makes c i j known is = by (driver_at c.nets i) refl is
  where
    by : (found : Option ℕ) → driver_at c.nets i ≡ found → instance_in c found ≡ Some j → has_output j.kind ≡ true
    by None at is = cc
    by (Some k) at is = makes_of c k i j known is (sym (ap out_of is) ∙ known.drivers.is i k at)

-- ---- driven nets exist

driven_below : (nets : List Net) (i : ℕ) → is_some (driver_at nets i) ≡ true → i < length nets
driven_below [] i driven = cc
driven_below (n ∷ nets) zero driven = omega arith
driven_below (n ∷ nets) (suc i) driven = let below = driven_below nets i driven in omega (arith, below)

pub active_below : (c : Circuit) (active : List Bool) (i : ℕ) → FitActive c active → marked_in active i ≡ true → i < length c.nets
active_below c active i fit marked = driven_below c.nets i (fit i marked)

pub active_past : (c : Circuit) (active : List Bool) (i : ℕ) → FitActive c active → length c.nets ≤ i → marked_in active i ≡ false
active_past c active i fit past = false_from_ne_true (marked_in active i) (λ marked. let below = active_below c active i fit marked in omega (arith, below, past))

pub evaluated_below : (c : Circuit) (active : List Bool) (classes : Option (List ℕ)) (i : ℕ) → FitActive c active → is_evaluated active classes i ≡ true → i < length c.nets
evaluated_below c active classes i fit is = active_below c active i fit (and_parts (marked_in active i) (leads_in classes i) is).0
