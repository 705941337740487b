-- A checker's faults, and those of all checkers, as code gathers them.
use Rattle.std.proofs.Common.{◌≡◌, ℕ, ◌+◌, ◌<◌, Bool, true, false, List, [], ◌++◌, length, append-nil, zero-add, get_or, sym, ap, subst, ◌∙◌, slice_get, Option, Some, None}
use Rattle.std.specs.List.{flat_map, range_with_len}
use Rattle.std.specs.Option.{option_map}
use Rattle.std.proofs.lemmas.List.{flat_map_more}
use Rattle.std.proofs.lemmas.List.Elements.{All-get_or}
use Rattle.scald_base.specs.Time.{period}
use Rattle.vector_names.proofs.Ranges.{range_more}
use Rattle.step_values.specs.declared.value.Value.{Value}
use Rattle.skew_algebra.specs.Wave.{Wave}
use Rattle.element_kinds.specs.declared.kind.Kind.{Kind}
use Rattle.element_kinds.specs.declared.kind.Kind.TheVariants.{MinPulse}
use Rattle.flat_circuit.specs.declared.instance.Pin.{Pin}
use Rattle.flat_circuit.specs.declared.instance.Instance.{Instance}
use Rattle.flat_circuit.specs.declared.fault.Fault.{Fault}
use Rattle.flat_circuit.specs.declared.fault.Fault.TheVariants.{Width}
use Rattle.flat_circuit.specs.Kind.{PinsFit}
use Rattle.flat_circuit.specs.Instances.{InstanceFits, PinExists}
use Rattle.flat_circuit.specs.Circuit.{Circuit}
use Rattle.fixpoint_engine.specs.Waves.{Waves, pin_wave}
use Rattle.fixpoint_engine.specs.Pins.{read}
use Rattle.fixpoint_engine.proofs.Fits.{AreLong, long_pin}
use Rattle.pulse_check.specs.Pulse.{first_narrow}
use Rattle.element_kinds.specs.Kinds.{checks_pulses}
use Rattle.pulse_check.specs.Faults.{fault_at, width_fault, faults_by, faults_by_kind, faults_of, instance_faults}

-- ---- by the wave at a pin

pub no_width : (p k : ℕ) (wave : Wave Value) (level : Bool) (limit : ℕ) → None ≡ first_narrow p level (read wave.cells) limit → None ≡ width_fault p k wave level limit
unfolding width_fault
no_width p k wave level limit e = ap (option_map (fault_at k level)) e

pub a_width : (p k from width : ℕ) (wave : Wave Value) (level : Bool) (limit : ℕ) →
    Some (from, width) ≡ first_narrow p level (read wave.cells) limit → Some (Width k level from width) ≡ width_fault p k wave level limit
unfolding width_fault
a_width p k from width wave level limit e = ap (option_map (fault_at k level)) e

-- the wave at a checker's first pin has the circuit's period
pub a_pin : (kind : Kind) (ps : List Pin) → checks_pulses kind ≡ true → PinsFit kind ps → 0 < length ps
a_pin MinPulse ps is fits = fits.least
a_pin kind ps is fits = cc

pub long_first : (c : Circuit) (ws : Waves) (j : Instance) (ps : List Pin) (d : Pin) (wave : Wave Value) →
    checks_pulses j.kind ≡ true → InstanceFits c.header (length c.nets) j → AreLong c ws → ps ≡ j.pins →
    wave ≡ pin_wave c ws (get_or ps 0 d) → length wave.cells ≡ period c.header
long_first c ws j ps d wave checks fits long same is =
    ap (λ (w : Wave Value). length w.cells) is
    ∙ long_pin c ws (get_or ps 0 d) long
    (subst (λ (qs : List Pin). PinExists (length c.nets) (get_or qs 0 d)) (sym same)
    (All-get_or (PinExists (length c.nets)) j.pins 0 d (a_pin j.kind j.pins checks fits.pins) fits.exists.reads))

-- ---- one instance

pub instance_kind : (c : Circuit) (ws : Waves) (k : ℕ) (j : Instance) → Some j ≡ slice_get c.instances k → faults_by_kind j.kind c ws k j ≡ instance_faults c ws k
unfolding instance_faults
instance_kind c ws k j at = ap (faults_of c ws k) at

pub none_more : (c : Circuit) (ws : Waves) (k : ℕ) (faults : List Fault) → None ≡ slice_get c.instances k → faults ≡ faults ++ instance_faults c ws k
unfolding instance_faults
none_more c ws k faults at = sym (append-nil faults) ∙ ap (λ (o : Option Instance). faults ++ faults_of c ws k o) at

other_kind : (kind : Kind) (c : Circuit) (ws : Waves) (k : ℕ) (j : Instance) → checks_pulses kind ≡ false → [] ≡ faults_by_kind kind c ws k j
other_kind kind c ws k j none = sym (ap (λ b. faults_by b c ws k j) none)

pub other_more : (c : Circuit) (ws : Waves) (k : ℕ) (j : Instance) (faults : List Fault) → Some j ≡ slice_get c.instances k → checks_pulses j.kind ≡ false → faults ≡ faults ++ instance_faults c ws k
other_more c ws k j faults at not =
    sym (append-nil faults) ∙ ap (λ (l : List Fault). faults ++ l) (other_kind j.kind c ws k j not ∙ instance_kind c ws k j at)

-- ---- all

pub flat_more : (find : ℕ → List Fault) (n : ℕ) (faults more : List Fault) → faults ≡ flat_map find (range_with_len 0 n) → more ≡ faults ++ find n → more ≡ flat_map find (range_with_len 0 (n + 1))
flat_more find n faults more so_far e =
    e ∙ (λ i. so_far i ++ find n) ∙ flat_map_more find [] (range_with_len 0 n) n ∙ ap (flat_map find) (sym (range_more 0 n n (zero-add n)))
