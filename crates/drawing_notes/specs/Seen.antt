-- What is known of a case while its paths are followed.
use Rattle.std.specs.Prelude.{ℕ, Bool, List}
use Rattle.step_values.specs.declared.value.Value.{Value}
use Rattle.skew_algebra.specs.Wave.{Wave}
use Rattle.flat_circuit.specs.Circuit.{Circuit, IsCircuit}
use Rattle.fixpoint_engine.specs.Waves.{FitWaves, waves_of}
use Rattle.drawing_notes.specs.Doubts.{ArePassable}
use Rattle.drawing_notes.specs.Passing.{AreHeld}

-- The waves of its nets, the nets that pass something on, and the instances with a mark whose rule
-- holds.
pub record Sees (c : Circuit) (looped : ℕ → Bool) (waves : List (Wave Value))
    (within held : List Bool) : Type 0 where
  pub circuit : IsCircuit c
  pub fit : FitWaves c waves
  pub nets : ArePassable c looped (waves_of waves) within
  pub marks : AreHeld c (waves_of waves) held

-- by some loops
abbrev pub IsSeen : Circuit → List (Wave Value) → List Bool → List Bool → Type 0
IsSeen c waves within held = (looped : ℕ → Bool) × Sees c looped waves within held
