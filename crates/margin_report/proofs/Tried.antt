-- A value is tried as if it were written.
use Rattle.std.proofs.Common.{◌≡◌, ℕ, Bool, true, false, not, cond, ◌&&◌, eq-eqb, List, [], ◌∷◌, ◌++◌, refl, ap, ◌∙◌, Option, Some, None, slice_get}
use Rattle.std.specs.Prelude.{◌==◌, filter}
use Rattle.std.specs.Option.{option_map}
use Rattle.std.proofs.Math.Bool.{and-false}
use Rattle.std.proofs.lemmas.List.Elements.{filter-append}
use Rattle.scald_base.specs.Time.{period}
use Rattle.skew_algebra.specs.Wave.{Wave}
use Rattle.step_values.specs.declared.value.Value.{Value}
use Rattle.element_kinds.specs.Kinds.{checks_points, checks_pulses, may_be_marked}
use Rattle.flat_circuit.specs.Limits.{high_of, low_of}
use Rattle.flat_circuit.specs.declared.instance.Instance.{Instance}
use Rattle.flat_circuit.specs.declared.fault.Fault.{Fault}
use Rattle.flat_circuit.specs.Circuit.{Circuit}
use Rattle.fixpoint_engine.specs.Waves.{Waves}
use Rattle.fixpoint_engine.specs.Pins.{read}
use Rattle.point_check.specs.Faults as point
use Rattle.point_check.specs.Faults.{fault_by, fault_of, instance_fault}
use Rattle.pulse_check.specs.Pulse.{first_narrow}
use Rattle.pulse_check.specs.Faults as pulse
use Rattle.pulse_check.specs.Faults.{fault_at, faults_by, faults_of, instance_faults, limited_fault, listed, width_fault}
use Rattle.pulse_check.specs.Sound.{is_of_pulse, same_level}
use Rattle.margin_report.specs.declared.margin.Parameter.TheVariants.{Setup, Hold, High, Low}
use Rattle.margin_report.specs.Tried.{TriedAsWritten, with_instances, with_value}

-- ---- at edges

edge_fault : (c : Circuit) (ws : Waves) (k : ℕ) (j : Instance) → checks_points j.kind ≡ true → slice_get c.instances k ≡ Some j →
    instance_fault c ws k ≡ point.limited_fault c ws k j j.limits
unfolding instance_fault
edge_fault c ws k j asked at = ap (fault_of c ws k) at ∙ ap (λ (b : Bool). fault_by b (may_be_marked j.kind) c ws k j) asked

-- ---- of pulses

level_is_same : (level : Bool) → same_level level level ≡ true
level_is_same true = refl
level_is_same false = refl

level_is_other : (level : Bool) → same_level (not level) level ≡ false
level_is_other true = refl
level_is_other false = refl

-- of the faults of one level those of the same level are all, and those of the other none
own_level : (k : ℕ) (level : Bool) (found : Option (ℕ × ℕ)) → filter (is_of_pulse k level) (listed (option_map (fault_at k level) found)) ≡ listed (option_map (fault_at k level) found)
own_level k level None = refl
own_level k level (Some at) =
    ap (λ (b : Bool). cond b (fault_at k level at ∷ []) []) (ap (λ (b : Bool). b && same_level level level) (eq-eqb k k refl) ∙ level_is_same level)

other_level : (k : ℕ) (level : Bool) (found : Option (ℕ × ℕ)) → filter (is_of_pulse k level) (listed (option_map (fault_at k (not level)) found)) ≡ []
other_level k level None = refl
other_level k level (Some at) =
    ap (λ (b : Bool). cond b (fault_at k (not level) at ∷ []) []) (ap (λ (b : Bool). (k == k) && b) (level_is_other level) ∙ and-false (k == k))

own_width : (p k : ℕ) (w : Wave Value) (level : Bool) (limit : ℕ) → filter (is_of_pulse k level) (listed (width_fault p k w level limit)) ≡ listed (width_fault p k w level limit)
unfolding width_fault
own_width p k w level limit = own_level k level (first_narrow p level (read w.cells) limit)

other_width : (p k : ℕ) (w : Wave Value) (level : Bool) (limit : ℕ) → filter (is_of_pulse k level) (listed (width_fault p k w (not level) limit)) ≡ []
unfolding width_fault
other_width p k w level limit = other_level k level (first_narrow p (not level) (read w.cells) limit)

append_nil : (xs : List Fault) → xs ++ [] ≡ xs
append_nil [] = refl
append_nil (x ∷ xs) = ap (λ ys. x ∷ ys) (append_nil xs)

both_widths : (c : Circuit) (ws : Waves) (k : ℕ) (j : Instance) → checks_pulses j.kind ≡ true → slice_get c.instances k ≡ Some j →
    instance_faults c ws k ≡ listed (limited_fault c ws k j true (high_of j.limits)) ++ listed (limited_fault c ws k j false (low_of j.limits))
unfolding instance_faults
both_widths c ws k j asked at = ap (faults_of c ws k) at ∙ ap (λ (b : Bool). faults_by b c ws k j) asked

high_widths : (c : Circuit) (ws : Waves) (k : ℕ) (j : Instance) → checks_pulses j.kind ≡ true → slice_get c.instances k ≡ Some j →
    filter (is_of_pulse k true) (instance_faults c ws k) ≡ listed (limited_fault c ws k j true (high_of j.limits))
high_widths c ws k j asked at =
    let high : List Fault = listed (limited_fault c ws k j true (high_of j.limits)) in
    let low : List Fault = listed (limited_fault c ws k j false (low_of j.limits)) in
    ap (filter (is_of_pulse k true)) (both_widths c ws k j asked at) ∙ filter-append (is_of_pulse k true) high low
    ∙ (λ i. own_width (period c.header) k (pulse.pin_of c ws j) true (high_of j.limits) i ++ other_width (period c.header) k (pulse.pin_of c ws j) true (low_of j.limits) i)
    ∙ append_nil high

low_widths : (c : Circuit) (ws : Waves) (k : ℕ) (j : Instance) → checks_pulses j.kind ≡ true → slice_get c.instances k ≡ Some j →
    filter (is_of_pulse k false) (instance_faults c ws k) ≡ listed (limited_fault c ws k j false (low_of j.limits))
low_widths c ws k j asked at =
    let high : List Fault = listed (limited_fault c ws k j true (high_of j.limits)) in
    let low : List Fault = listed (limited_fault c ws k j false (low_of j.limits)) in
    ap (filter (is_of_pulse k false)) (both_widths c ws k j asked at) ∙ filter-append (is_of_pulse k false) high low
    ∙ (λ i. other_width (period c.header) k (pulse.pin_of c ws j) false (high_of j.limits) i ++ own_width (period c.header) k (pulse.pin_of c ws j) false (low_of j.limits) i)

-- ---- with a value

pub tried_as_written : TriedAsWritten
tried_as_written c instances ws k j Setup value asked at = ap listed (edge_fault (with_instances c instances) ws k (with_value j Setup value) asked at)
tried_as_written c instances ws k j Hold value asked at = ap listed (edge_fault (with_instances c instances) ws k (with_value j Hold value) asked at)
tried_as_written c instances ws k j High value asked at = high_widths (with_instances c instances) ws k (with_value j High value) asked at
tried_as_written c instances ws k j Low value asked at = low_widths (with_instances c instances) ws k (with_value j Low value) asked at
