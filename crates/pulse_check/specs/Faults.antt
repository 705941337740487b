-- The faults of pulses that may be narrower than a checker asks for, and their order.
use Rattle.std.specs.Prelude.{◌≡◌, ℕ, Bool, true, false, List, [], ◌∷◌, ◌++◌, length, slice_get, Option, Some, None}
use Rattle.std.specs.List.{flat_map, range_with_len}
use Rattle.std.specs.Option.{option_map}
use Rattle.scald_base.specs.Time.{period}
use Rattle.skew_algebra.specs.Wave.{Wave}
use Rattle.step_values.specs.declared.value.Value.{Value}
use Rattle.element_kinds.specs.declared.kind.Kind.{Kind}
use Rattle.element_kinds.specs.Kinds.{checks_pulses}
use Rattle.flat_circuit.specs.Limits.{high_of, low_of}
use Rattle.flat_circuit.specs.declared.instance.Instance.{Instance}
use Rattle.flat_circuit.specs.declared.fault.Fault.{Fault}
use Rattle.flat_circuit.specs.declared.fault.Fault.TheVariants.{Width}
use Rattle.flat_circuit.specs.Circuit.{Circuit}
use Rattle.gate_eval.specs.Instance.{wave_of_pin}
use Rattle.fixpoint_engine.specs.Waves.{Waves, pin_waves}
use Rattle.fixpoint_engine.specs.Pins.{read}
use Rattle.pulse_check.specs.Pulse.{first_narrow}

abbrev pub fault_at : ℕ → Bool → ℕ × ℕ → Fault
fault_at k level found = Width k level found.0 found.1

-- the fault of checker k's high pulses, or its low ones, with this least width, by the wave at its
-- pin
unfoldable pub width_fault : ℕ → ℕ → Wave Value → Bool → ℕ → Option Fault
width_fault period k wave level limit =
    option_map (fault_at k level) (first_narrow period level (read wave.cells) limit)

abbrev pub pin_of : Circuit → Waves → Instance → Wave Value
pin_of c ws j = wave_of_pin (pin_waves c ws j) 0

-- there is an instance that is a checker which measures pulses
abbrev pub IsPulseChecker : Option Instance → Type 0
IsPulseChecker None = ⊥
IsPulseChecker (Some j) = checks_pulses j.kind ≡ true

-- the same by its circuit
abbrev pub limited_fault : Circuit → Waves → ℕ → Instance → Bool → ℕ → Option Fault
limited_fault c ws k j level limit = width_fault (period c.header) k (pin_of c ws j) level limit

abbrev pub limited_fault_of : Circuit → Waves → ℕ → Bool → ℕ → Option Instance → Option Fault
limited_fault_of c ws k level limit None = None
limited_fault_of c ws k level limit (Some j) = limited_fault c ws k j level limit

abbrev pub limited_fault_at : Circuit → Waves → ℕ → Bool → ℕ → Option Fault
limited_fault_at c ws k level limit = limited_fault_of c ws k level limit (slice_get c.instances k)

abbrev pub listed : Option Fault → List Fault
listed None = []
listed (Some fault) = fault ∷ []

-- Those of a checker that measures pulses.
abbrev pub faults_by : Bool → Circuit → Waves → ℕ → Instance → List Fault
faults_by true c ws k j =
    listed (limited_fault c ws k j true (high_of j.limits))
    ++ listed (limited_fault c ws k j false (low_of j.limits))
faults_by false c ws k j = []

abbrev pub faults_by_kind : Kind → Circuit → Waves → ℕ → Instance → List Fault
faults_by_kind kind c ws k j = faults_by (checks_pulses kind) c ws k j

abbrev pub faults_of : Circuit → Waves → ℕ → Option Instance → List Fault
faults_of c ws k None = []
faults_of c ws k (Some j) = faults_by_kind j.kind c ws k j

-- the faults of the instance of a number: of high pulses, and then of low ones
unfoldable pub instance_faults : Circuit → Waves → ℕ → List Fault
instance_faults c ws k = faults_of c ws k (slice_get c.instances k)

-- those of all, in the order of expansion
abbrev pub width_faults : Circuit → Waves → List Fault
width_faults c ws = flat_map (instance_faults c ws) (range_with_len 0 (length c.instances))
