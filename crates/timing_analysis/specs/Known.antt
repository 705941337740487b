-- What is known of the waves from which each case sets out.
use Rattle.std.specs.Prelude.{◌≡◌, length, map}
use Rattle.std.specs.List.{range_with_len}
use Rattle.flat_circuit.specs.Circuit.{Circuit}
use Rattle.fixpoint_engine.specs.Waves.{Waves}
use Rattle.point_check.specs.Known.{AreKnown}
use Rattle.pulse_check.specs.Faults.{instance_faults}
use Rattle.timing_analysis.specs.declared.case_faults.KnownFaults.{KnownFaults}

-- these are the faults of each instance and of each net in these waves, by their numbers
pub record IsKnown (c : Circuit) (ws : Waves) (known : KnownFaults) : Type 0 where
  pub points : AreKnown c ws known.points
  pub pulses : known.pulses ≡ map (instance_faults c ws) (range_with_len 0 (length c.instances))
