-- What is known of each instance and of each net in some waves.
use Rattle.std.specs.Prelude.{◌≡◌, List, length, map}
use Rattle.std.specs.List.{range_with_len}
use Rattle.step_values.specs.declared.value.Value.{Value}
use Rattle.skew_algebra.specs.Wave.{Wave}
use Rattle.flat_circuit.specs.Circuit.{Circuit}
use Rattle.fixpoint_engine.specs.Waves.{FitWaves, waves_of, Waves}
use Rattle.point_check.specs.declared.known.PointFaults.{PointFaults}
use Rattle.point_check.specs.Faults.{instance_fault, net_fault}

-- these are the faults of each instance and of each net in these waves, by their numbers
pub record AreKnown (c : Circuit) (ws : Waves) (known : PointFaults) : Type 0 where
  pub instances : known.instances
      ≡ map (instance_fault c ws) (range_with_len 0 (length c.instances))
  pub nets : known.nets ≡ map (net_fault c ws) (range_with_len 0 (length c.nets))

-- waves of all nets, and the faults of each instance and of each net in them
pub record AreChecked (c : Circuit) (waves : List (Wave Value)) (found : PointFaults) : Type 0 where
  pub fit : FitWaves c waves
  pub known : AreKnown c (waves_of waves) found
