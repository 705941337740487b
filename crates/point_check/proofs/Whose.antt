-- A fault is of the instance or the net for which it was looked for.
use Rattle.std.proofs.Common.{◌≡◌, ℕ, zero, suc, ◌+◌, ◌<◌, Bool, true, false, cond, eq-eqb, List, [], ◌∷◌, length, get_or, refl, sym, subst, ◌∙◌, arith, Option, Some, None}
use Rattle.std.specs.Prelude.{IfSome, filter_map, slice_get}
use Rattle.std.specs.List.{Contains, list_any, cons_option, range_with_len}
use Rattle.std.specs.Option.{option_or, option_map}
use Rattle.std.proofs.lemmas.Bool.{both_ways, or_parts}
use Rattle.std.proofs.lemmas.List.Folds.{list_any-append}
use Rattle.std.proofs.lemmas.List.FromFn.{length-range_with_len, get_or-range_with_len}
use Rattle.std.proofs.lemmas.List.{length-map}
use Rattle.std.proofs.lemmas.List.Sorted.{Contains-permutation}
use Rattle.scald_base.specs.declared.assertion.AssertSpec.{AssertSpec}
use Rattle.scald_base.specs.Time.{Header}
use Rattle.step_values.specs.declared.value.Value.{Value}
use Rattle.step_values.specs.Steps.{has}
use Rattle.step_values.specs.Cell.{values}
use Rattle.skew_algebra.specs.Wave.{Wave, fold}
use Rattle.element_kinds.specs.declared.kind.Kind.{Kind}
use Rattle.element_kinds.specs.Kinds.{checks_points, may_be_marked}
use Rattle.flat_circuit.specs.declared.instance.Instance.{Instance}
use Rattle.flat_circuit.specs.declared.limits.Limits.{Limits}
use Rattle.flat_circuit.specs.declared.net.Net.{Net}
use Rattle.flat_circuit.specs.declared.fault.Fault.{Fault}
use Rattle.flat_circuit.specs.Circuit.{Circuit, IsCircuit, net_name, net_names}
use Rattle.gate_eval.specs.Hold.{first_some, hazard}
use Rattle.fixpoint_engine.specs.Waves.{Waves, pin_waves, marked_pin}
use Rattle.point_check.specs.declared.window.Window.{Window}
use Rattle.point_check.specs.Window.{Folds, first_mover, fault_at, window_fault}
use Rattle.point_check.specs.Point.{window_of, edge_fault, checker_fault}
use Rattle.point_check.specs.Assertion.{is_held, first_excess, fault_in, assertion_fault}
use Rattle.point_check.specs.Faults.{hazard_at, mark_fault, fault_by, fault_by_kind, fault_of, instance_fault, fault_if_held, fault_of_net, net_fault, point_faults, is_of_instance, is_of_net}

-- ---- what holds of whatever is found

or_each : {A : Type 0} (P : A → Type 0) (o p : Option A) → IfSome o P → IfSome p P → IfSome (option_or o p) P
or_each P None p h k = k
or_each P (Some x) p h k = h

first_some_each : {A : Type 0} (P : A → Type 0) (f : ℕ → Option A) (n i : ℕ) → ((j : ℕ) → IfSome (f j) P) → IfSome (first_some f n i) P
first_some_each P f zero i each = tt
first_some_each P f (suc n) i each = or_each P (f i) (first_some f n (i + 1)) (each i) (first_some_each P f n (i + 1) each)

map_each : {A B : Type 0} (P : B → Type 0) (h : A → B) (o : Option A) → ((x : A) → P (h x)) → IfSome (option_map h o) P
map_each P h None each = tt
map_each P h (Some x) each = each x

cond_each : {A : Type 0} (P : A → Type 0) (b : Bool) (o : Option A) → IfSome o P → IfSome (cond b o None) P
cond_each P true o each = each
cond_each P false o each = tt

-- ---- instances

window_is_of : (p k : ℕ) (input : Folds) (t : ℕ) (window : Option Window) → IfSome (window_fault p k input t window) (λ f. is_of_instance k f ≡ true)
window_is_of p k input t None = tt
window_is_of p k input t (Some w) = map_each (λ f. is_of_instance k f ≡ true) (fault_at p k input w t) (first_mover p input w t) (λ place. eq-eqb k k refl)

checker_of : (kind : Kind) (p k : ℕ) (clock input : Wave Value) (limits : Limits) → IfSome (checker_fault kind p k clock input limits) (λ f. is_of_instance k f ≡ true)
unfolding checker_fault
checker_of kind p k clock input limits =
    first_some_each (λ f. is_of_instance k f ≡ true) (edge_fault kind p k (fold values clock) (fold values input) limits) p 0
    (λ t. cond_each (λ f. is_of_instance k f ≡ true) (has (fold values clock t) false true) (window_fault p k (fold values input) t (window_of kind p (fold values clock) limits t))
    (window_is_of p k (fold values input) t (window_of kind p (fold values clock) limits t)))

mark_of : (c : Circuit) (ws : Waves) (k : ℕ) (j : Instance) → IfSome (mark_fault c ws k j) (λ f. is_of_instance k f ≡ true)
mark_of c ws k j = map_each (λ f. is_of_instance k f ≡ true) (hazard_at k) (hazard j.kind (pin_waves c ws j) (marked_pin j)) (λ found. eq-eqb k k refl)

kind_of : (kind : Kind) (c : Circuit) (ws : Waves) (k : ℕ) (j : Instance) → IfSome (fault_by_kind kind c ws k j) (λ f. is_of_instance k f ≡ true)
kind_of kind c ws k j = by (checks_points kind) (may_be_marked kind)
  where
    by : (points markable : Bool) → IfSome (fault_by points markable c ws k j) (λ f. is_of_instance k f ≡ true)
    by true markable = checker_of j.kind _ k _ _ j.limits
    by false true = mark_of c ws k j
    by false false = tt

instance_of : (c : Circuit) (ws : Waves) (k : ℕ) → IfSome (instance_fault c ws k) (λ f. is_of_instance k f ≡ true)
unfolding instance_fault
instance_of c ws k = by (slice_get c.instances k)
  where
    by : (o : Option Instance) → IfSome (fault_of c ws k o) (λ f. is_of_instance k f ≡ true)
    by None = tt
    by (Some j) = kind_of j.kind c ws k j

-- ---- nets

assertion_of : (h : Header) (spec : AssertSpec) (i : ℕ) (w : Wave Value) → IfSome (assertion_fault h spec i w) (λ f. is_of_net i f ≡ true)
unfolding assertion_fault
assertion_of h spec i w = map_each (λ f. is_of_net i f ≡ true) (fault_in i (fold values w)) (first_excess _ (fold values w) _) (λ s. eq-eqb i i refl)

net_of : (c : Circuit) (ws : Waves) (i : ℕ) → IfSome (net_fault c ws i) (λ f. is_of_net i f ≡ true)
unfolding net_fault
net_of c ws i = by (slice_get c.nets i)
  where
    if_held : (held : Bool) (net : Net) → IfSome (fault_if_held held c ws i net) (λ f. is_of_net i f ≡ true)
    if_held true net = assertion_of c.header net.spec i (ws i)
    if_held false net = tt

    by : (o : Option Net) → IfSome (fault_of_net c ws i o) (λ f. is_of_net i f ≡ true)
    by None = tt
    by (Some net) = if_held (is_held net) net

-- ---- lists of what is found

head_none : (test : Fault → Bool) (o : Option Fault) (rest : List Fault) → list_any test (cons_option o rest) ≡ false → IfSome o (λ f. test f ≡ true) → o ≡ None
head_none test None rest none each = refl
head_none test (Some f) rest none each = absurd (both_ways (test f) (or_parts (test f) (list_any test rest) none).0 each)

tail_none : (test : Fault → Bool) (o : Option Fault) (rest : List Fault) → list_any test (cons_option o rest) ≡ false → list_any test rest ≡ false
tail_none test None rest none = none
tail_none test (Some f) rest none = (or_parts (test f) (list_any test rest) none).1

none_at : (find : ℕ → Option Fault) (test : Fault → Bool) (xs : List ℕ) (place d x : ℕ) → place < length xs → get_or xs place d ≡ x → list_any test (filter_map find xs) ≡ false →
    IfSome (find x) (λ f. test f ≡ true) → find x ≡ None
none_at find test [] place d x below is none each = absurd (omega arith)
none_at find test (y ∷ ys) zero d x below is none each =
    subst (λ (z : ℕ). IfSome (find z) (λ f. test f ≡ true) → find z ≡ None) is (head_none test (find y) (filter_map find ys) none) each
none_at find test (y ∷ ys) (suc place) d x below is none each = none_at find test ys place d x (omega arith) is (tail_none test (find y) (filter_map find ys) none) each

-- ---- the whole list

both_none : (c : Circuit) (ws : Waves) (test : Fault → Bool) → list_any test (point_faults c ws) ≡ false →
    (list_any test (filter_map (instance_fault c ws) (range_with_len 0 (length c.instances))) ≡ false) × (list_any test (filter_map (net_fault c ws) c.order) ≡ false)
both_none c ws test none =
    or_parts (list_any test (filter_map (instance_fault c ws) (range_with_len 0 (length c.instances)))) (list_any test (filter_map (net_fault c ws) c.order))
    (sym (list_any-append test (filter_map (instance_fault c ws) (range_with_len 0 (length c.instances))) (filter_map (net_fault c ws) c.order)) ∙ none)

-- an instance of which there is no fault has none
pub no_instance_fault : (c : Circuit) (ws : Waves) (k : ℕ) → k < length c.instances → list_any (is_of_instance k) (point_faults c ws) ≡ false → instance_fault c ws k ≡ None
no_instance_fault c ws k below none =
    none_at (instance_fault c ws) (is_of_instance k) (range_with_len 0 (length c.instances)) k 0 k
    (let long = length-range_with_len 0 (length c.instances) in omega (arith, long)) (get_or-range_with_len 0 (length c.instances) k 0 below ∙ zero_plus k)
    (both_none c ws (is_of_instance k) none).0 (instance_of c ws k)
  where
    zero_plus : (k : ℕ) → 0 + k ≡ k
    zero_plus k = omega arith

-- so has a net
pub no_net_fault : (c : Circuit) (ws : Waves) (i : ℕ) → IsCircuit c → i < length c.nets → list_any (is_of_net i) (point_faults c ws) ≡ false → net_fault c ws i ≡ None
no_net_fault c ws i known below none =
    let long : length (net_names c.nets) ≡ length c.nets = length-map c.nets net_name in
    let count : length (range_with_len 0 (length (net_names c.nets))) ≡ length (net_names c.nets) = length-range_with_len 0 (length (net_names c.nets)) in
    let there : Contains (range_with_len 0 (length (net_names c.nets))) i =
    (i, omega (arith, long, count), get_or-range_with_len 0 (length (net_names c.nets)) i i (omega (arith, long)) ∙ zero_plus i) in
    let here : Contains c.order i = Contains-permutation (range_with_len 0 (length (net_names c.nets))) c.order i known.by_name.each there in
    none_at (net_fault c ws) (is_of_net i) c.order here.0 i i here.1 here.2 (both_none c ws (is_of_net i) none).1 (net_of c ws i)
  where
    zero_plus : (k : ℕ) → 0 + k ≡ k
    zero_plus k = omega arith
