-- There are few faults: one at most of each instance and each net, and two of each checker of pulses.
use Rattle.std.proofs.Common.{◌≡◌, ℕ, suc, ◌+◌, ◌*◌, ◌≤◌, List, [], ◌∷◌, ◌++◌, length, length-append, ap, ◌∙◌, arith, true, false, Option, Some, None}
use Rattle.std.specs.Prelude.{filter_map, slice_get}
use Rattle.std.specs.List.{cons_option, flat_map, range_with_len}
use Rattle.std.proofs.lemmas.List.{length-map}
use Rattle.std.proofs.lemmas.List.FromFn.{length-range_with_len}
use Rattle.std.proofs.lemmas.List.Sorted.{length_permutation}
use Rattle.flat_circuit.specs.Limits.{high_of, low_of}
use Rattle.flat_circuit.specs.declared.fault.Fault.{Fault}
use Rattle.element_kinds.specs.declared.kind.Kind.{Kind}
use Rattle.element_kinds.specs.declared.kind.Kind.TheVariants.{MinPulse}
use Rattle.flat_circuit.specs.declared.instance.Instance.{Instance}
use Rattle.flat_circuit.specs.Circuit.{Circuit, IsCircuit, net_name, net_names}
use Rattle.flat_circuit.proofs.Counts.{length_few}
use Rattle.fixpoint_engine.specs.Waves.{Waves}
use Rattle.point_check.specs.Faults.{instance_fault, net_fault, point_faults}
use Rattle.pulse_check.specs.Faults.{listed, limited_fault, faults_by_kind, faults_of, instance_faults, width_faults}
use Rattle.timing_analysis.specs.Case as all_faults

length_one : {Y : Type 0} (found : Option Y) (ys : List Y) → length (cons_option found ys) ≤ suc (length ys)
length_one None ys = omega arith
length_one (Some y) ys = omega arith

length_found : {X Y : Type 0} (find : X → Option Y) (xs : List X) → length (filter_map find xs) ≤ length xs
length_found find [] = omega arith
length_found find (x ∷ xs) = omega (arith, length_one (find x) (filter_map find xs), length_found find xs)

length_listed : (found : Option Fault) → length (listed found) ≤ 1
length_listed None = omega arith
length_listed (Some f) = omega arith

two_at_most : (kind : Kind) (c : Circuit) (ws : Waves) (k : ℕ) (j : Instance) → length (faults_by_kind kind c ws k j) ≤ 2
two_at_most MinPulse c ws k j =
    omega (
      arith,
      length-append (listed (limited_fault c ws k j true (high_of j.limits))) (listed (limited_fault c ws k j false (low_of j.limits))),
      length_listed (limited_fault c ws k j true (high_of j.limits)),
      length_listed (limited_fault c ws k j false (low_of j.limits)),
    )
two_at_most kind c ws k j = omega arith

two_of : (c : Circuit) (ws : Waves) (k : ℕ) (found : Option Instance) → length (faults_of c ws k found) ≤ 2
two_of c ws k None = omega arith
two_of c ws k (Some j) = two_at_most j.kind c ws k j

two_in : (c : Circuit) (ws : Waves) (k : ℕ) → length (instance_faults c ws k) ≤ 2
unfolding instance_faults
two_in c ws k = two_of c ws k (slice_get c.instances k)

length_all : {X Y : Type 0} (make : X → List Y) → ((x : X) → length (make x) ≤ 2) → (xs : List X) → length (flat_map make xs) ≤ 2 * length xs
length_all make few [] = omega arith
length_all make few (x ∷ xs) = omega (arith, length-append (make x) (flat_map make xs), few x, length_all make few xs)

-- The faults of a circuit in one case are so few.
pub few_faults : (c : Circuit) (ws : Waves) → IsCircuit c → length (all_faults.faults_of c ws) ≤ 458752
few_faults c ws known =
    let instances : length c.instances ≤ 131072 = length_few c.instances known.few in
    let order : length c.order ≡ length c.nets =
    length_permutation (range_with_len 0 (length (net_names c.nets))) c.order known.by_name.each
    ∙ length-range_with_len 0 (length (net_names c.nets)) ∙ length-map c.nets net_name in
    let each : length (range_with_len 0 (length c.instances)) ≡ length c.instances = length-range_with_len 0 (length c.instances) in
    let nets : length c.nets ≤ 65536 = known.few_nets in
    let of_instances = length_found (instance_fault c ws) (range_with_len 0 (length c.instances)) in
    let of_nets = length_found (net_fault c ws) c.order in
    let of_pulses = length_all (instance_faults c ws) (two_in c ws) (range_with_len 0 (length c.instances)) in
    let points : length (point_faults c ws) ≡ length (filter_map (instance_fault c ws) (range_with_len 0 (length c.instances))) + length (filter_map (net_fault c ws) c.order) =
    length-append (filter_map (instance_fault c ws) (range_with_len 0 (length c.instances))) (filter_map (net_fault c ws) c.order) in
    omega (arith, length-append (point_faults c ws) (width_faults c ws), points, instances, order, each, nets, of_instances, of_nets, of_pulses)

pub few_both : (c : Circuit) (ws : Waves) (fs gs all : List Fault) → fs ≡ point_faults c ws → gs ≡ width_faults c ws → all ≡ fs ++ gs → IsCircuit c → length all ≤ 458752
few_both c ws fs gs all points widths are known =
    let same : all ≡ all_faults.faults_of c ws = are ∙ ap (λ (xs : List Fault). xs ++ gs) points ∙ ap (λ (xs : List Fault). point_faults c ws ++ xs) widths in
    omega (arith, ap length same, few_faults c ws known)
