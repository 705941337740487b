-- A tree that refutes is a verdict from the greater of its tick and the printed one on.
use Rattle.std.proofs.Common.{ℕ, List, [], max, refl}
use Rattle.std.proofs.Math.Nat.{le-max_left, le-max_right}
use Rattle.flat_circuit.specs.declared.case.CaseValue.{CaseValue}
use Rattle.flat_circuit.specs.Circuit.{Circuit}
use Rattle.narrowing.specs.declared.constraint.Constraint.{Constraint}
use Rattle.narrowing.specs.declared.part.Part.{Part}
use Rattle.narrowing.specs.Leaf.{NeverBreaksIn}
use Rattle.narrowing.specs.Tree.{IsRefuted}
use Rattle.narrowing.proofs.Trees.{never_later}
use Rattle.fault_decider.specs.Verdict.{IsRefutedBy}

pub refuted_verdict : (c : Circuit) (values : List CaseValue) (x : Constraint) (printed tick : ℕ)
    (found : List (List Part)) → IsRefuted c values x [] tick [] found →
    NeverBreaksIn c values [] x tick → IsRefutedBy c values x printed (max printed tick) found
refuted_verdict c values x printed tick found is never = record {
  tree = is.tree;
  refutes = record { tick = tick; over = is.over; refutes = is.refutes; greatest = refl };
  are = is.appended;
  never = never_later c values [] x tick (max printed tick) (le-max_right printed tick) never;
  later = le-max_left printed tick;
}
