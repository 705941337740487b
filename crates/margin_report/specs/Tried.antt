-- The faults of a checker that count for a parameter, in a circuit that has a value of it.
use Rattle.std.specs.Prelude.{◌≡◌, ℕ, true, false, List, filter, slice_get, Some}
use Rattle.flat_circuit.specs.Limits.{setup_of, hold_of, high_of, low_of}
use Rattle.flat_circuit.specs.declared.instance.Instance.{Instance}
use Rattle.flat_circuit.specs.declared.fault.Fault.{Fault}
use Rattle.flat_circuit.specs.Circuit.{Circuit}
use Rattle.flat_circuit.specs.declared.limits.Limits.TheVariants.{Edges, Pulses}
use Rattle.flat_circuit.specs.declared.limits.Limits.{Limits}
use Rattle.fixpoint_engine.specs.Waves.{Waves}
use Rattle.point_check.specs.Faults.{instance_fault}
use Rattle.pulse_check.specs.Faults.{instance_faults, listed}
use Rattle.pulse_check.specs.Sound.{is_of_pulse}
use Rattle.margin_report.specs.declared.margin.Parameter.{Parameter}
use Rattle.margin_report.specs.declared.margin.Parameter.TheVariants.{Setup, Hold, High, Low}
use Rattle.margin_report.specs.Margin.{IsAskedBy, fault_with}

-- Those that instance k has in these waves: for setup and for hold any fault at an edge, for the
-- width of high pulses those of high pulses, for that of low ones those of low ones.
abbrev pub own_faults : Circuit → Waves → ℕ → Parameter → List Fault
own_faults c ws k Setup = listed (instance_fault c ws k)
own_faults c ws k Hold = listed (instance_fault c ws k)
own_faults c ws k High = filter (is_of_pulse k true) (instance_faults c ws k)
own_faults c ws k Low = filter (is_of_pulse k false) (instance_faults c ws k)

-- the two limits, with this value of one of them
abbrev pub with_limit : Limits → Parameter → ℕ → Limits
with_limit limits Setup value = Edges value (hold_of limits)
with_limit limits Hold value = Edges (setup_of limits) value
with_limit limits High value = Pulses value (low_of limits)
with_limit limits Low value = Pulses (high_of limits) value

-- the checker with this value, and all else as it is written
abbrev pub with_value : Instance → Parameter → ℕ → Instance
with_value j parameter value =
    record {
      path = j.path;
      bit = j.bit;
      kind = j.kind;
      delay = j.delay;
      split = j.split;
      limits = with_limit j.limits parameter value;
      pins = j.pins;
      out = j.out;
      out_inverted = j.out_inverted;
      place = j.place;
    }

-- the circuit with these instances in place of its own
abbrev pub with_instances : Circuit → List Instance → Circuit
with_instances c instances =
    record { header = c.header; nets = c.nets; instances = instances; order = c.order }

-- A value is tried as if it were written: the fault is the one that the circuit has in which
-- checker k has the value, whatever its other instances are.
abbrev pub TriedAsWritten : Type 0
TriedAsWritten =
    (c : Circuit) (instances : List Instance) (ws : Waves) (k : ℕ) (j : Instance)
    (parameter : Parameter) (value : ℕ) →
    IsAskedBy j parameter → slice_get instances k ≡ Some (with_value j parameter value) →
    own_faults (with_instances c instances) ws k parameter
    ≡ listed (fault_with c ws k j parameter value)
