use Rattle.std.proofs.Common.{◌≡◌, ℕ, drop}
use Rattle.scald_base.specs.Time.{Header}
use Rattle.flat_circuit.specs.Instances.{InstanceFits}
use Rattle.narrowing.specs.Narrowed.{by_parts}
use Rattle.narrowing.proofs.instance.narrowed_instance.Given as goal

abbrev pub invariant-loop-part : goal.invariant-loop-part
invariant-loop-part l = record {
  is : by_parts l.k l.narrowed (drop l.part-index l.parts) ≡ by_parts l.k l.i l.parts;
  fits : (h : Header) (nets : ℕ) → InstanceFits h nets l.i → InstanceFits h nets l.narrowed;
}
