-- What is known of each instance in some waves.
use Rattle.std.specs.Prelude.{◌≡◌, List, length, map}
use Rattle.std.specs.List.{range_with_len}
use Rattle.step_values.specs.declared.value.Value.{Value}
use Rattle.skew_algebra.specs.Wave.{Wave}
use Rattle.flat_circuit.specs.declared.fault.Fault.{Fault}
use Rattle.flat_circuit.specs.Circuit.{Circuit}
use Rattle.fixpoint_engine.specs.Waves.{FitWaves, waves_of}
use Rattle.pulse_check.specs.Faults.{instance_faults}

-- waves of all nets, and the faults of each instance in them, by its number
pub record AreChecked (c : Circuit) (waves : List (Wave Value)) (found : List (List Fault)) : Type 0
  where
    pub fit : FitWaves c waves
    pub known : found ≡ map (instance_faults c (waves_of waves))
        (range_with_len 0 (length c.instances))
