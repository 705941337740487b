-- What is not listed of a checker's pulses it has not.
use Rattle.std.proofs.Common.{◌≡◌, ℕ, zero, suc, ◌+◌, ◌<◌, Bool, true, false, ◌&&◌, eq-eqb, List, [], ◌∷◌, ◌++◌, length, get_or, refl, sym, ap, subst, ◌∙◌, arith, slice_get, Option, Some, None}
use Rattle.std.specs.List.{list_any, flat_map, range_with_len}
use Rattle.std.specs.Option.{option_map}
use Rattle.std.proofs.lemmas.Bool.{both_ways, or_parts}
use Rattle.std.proofs.lemmas.List.Folds.{list_any-append}
use Rattle.std.proofs.lemmas.List.FromFn.{length-range_with_len, get_or-range_with_len}
use Rattle.scald_base.specs.Time.{period}
use Rattle.skew_algebra.specs.Wave.{Wave}
use Rattle.step_values.specs.declared.value.Value.{Value}
use Rattle.element_kinds.specs.declared.kind.Kind.TheVariants.{MinPulse}
use Rattle.flat_circuit.specs.Limits.{high_of, low_of}
use Rattle.flat_circuit.specs.declared.instance.Instance.{Instance}
use Rattle.flat_circuit.specs.declared.fault.Fault.{Fault}
use Rattle.flat_circuit.specs.Circuit.{Circuit}
use Rattle.fixpoint_engine.specs.Waves.{Waves}
use Rattle.fixpoint_engine.specs.Pins.{read}
use Rattle.pulse_check.specs.Pulse.{first_narrow}
use Rattle.pulse_check.specs.Break.{limit_of}
use Rattle.pulse_check.specs.Faults.{fault_at, width_fault, limited_fault, listed, faults_by_kind, faults_of, instance_faults, width_faults}
use Rattle.pulse_check.specs.Sound.{same_level, is_of_pulse}

level_is_same : (level : Bool) → same_level level level ≡ true
level_is_same true = refl
level_is_same false = refl

is_own : (k : ℕ) (level : Bool) (found : ℕ × ℕ) → is_of_pulse k level (fault_at k level found) ≡ true
is_own k level found = ap (λ b. b && same_level level level) (eq-eqb k k refl) ∙ level_is_same level

-- a fault that is listed is not missing
none_listed : (k : ℕ) (level : Bool) (o : Option (ℕ × ℕ)) → list_any (is_of_pulse k level) (listed (option_map (fault_at k level) o)) ≡ false → o ≡ None
none_listed k level None none = refl
none_listed k level (Some found) none = absurd (both_ways (is_of_pulse k level (fault_at k level found)) (or_parts (is_of_pulse k level (fault_at k level found)) false none).0 (is_own k level found))

pub none_limited : (c : Circuit) (ws : Waves) (k : ℕ) (j : Instance) (level : Bool) (limit : ℕ) (wave : Wave Value) →
    list_any (is_of_pulse k level) (listed (width_fault (period c.header) k wave level limit)) ≡ false →
    first_narrow (period c.header) level (read wave.cells) limit ≡ None
unfolding width_fault
none_limited c ws k j level limit wave none = none_listed k level (first_narrow (period c.header) level (read wave.cells) limit) none

either : (test : Fault → Bool) (xs ys : List Fault) → list_any test (xs ++ ys) ≡ false → (list_any test xs ≡ false) × (list_any test ys ≡ false)
either test xs ys none =
    let e = sym (list_any-append test xs ys) ∙ none in
    or_parts (list_any test xs) (list_any test ys) e

-- of both levels
pub none_of_checker : (c : Circuit) (ws : Waves) (k : ℕ) (j : Instance) (level : Bool) → list_any (is_of_pulse k level) (faults_by_kind MinPulse c ws k j) ≡ false →
    list_any (is_of_pulse k level) (listed (limited_fault c ws k j level (limit_of j level))) ≡ false
none_of_checker c ws k j true none = (either (is_of_pulse k true) (listed (limited_fault c ws k j true (high_of j.limits))) (listed (limited_fault c ws k j false (low_of j.limits))) none).0
none_of_checker c ws k j false none = (either (is_of_pulse k false) (listed (limited_fault c ws k j true (high_of j.limits))) (listed (limited_fault c ws k j false (low_of j.limits))) none).1

none_at : (find : ℕ → List Fault) (test : Fault → Bool) (xs : List ℕ) (place d x : ℕ) →
    place < length xs → get_or xs place d ≡ x → list_any test (flat_map find xs) ≡ false → list_any test (find x) ≡ false
none_at find test [] place d x below is none = absurd (omega arith)
none_at find test (y ∷ ys) zero d x below is none =
    subst (λ (z : ℕ). list_any test (find z) ≡ false) is (either test (find y) (flat_map find ys) none).0
none_at find test (y ∷ ys) (suc place) d x below is none = none_at find test ys place d x (omega arith) is (either test (find y) (flat_map find ys) none).1

-- an instance of which there is no fault has none
pub none_of_instance : (c : Circuit) (ws : Waves) (k : ℕ) (test : Fault → Bool) → k < length c.instances → list_any test (width_faults c ws) ≡ false → list_any test (instance_faults c ws k) ≡ false
none_of_instance c ws k test below none =
    none_at (instance_faults c ws) test (range_with_len 0 (length c.instances)) k 0 k
    (let long = length-range_with_len 0 (length c.instances) in omega (arith, long)) (get_or-range_with_len 0 (length c.instances) k 0 below ∙ zero_plus k) none
  where
    zero_plus : (k : ℕ) → 0 + k ≡ k
    zero_plus k = omega arith

pub by_kind : (c : Circuit) (ws : Waves) (k : ℕ) (j : Instance) (faults : List Fault) → slice_get c.instances k ≡ Some j → faults ≡ instance_faults c ws k → faults ≡ faults_by_kind j.kind c ws k j
unfolding instance_faults
by_kind c ws k j faults at is = is ∙ ap (faults_of c ws k) at
