-- The instances whose mark has a hazard, as a set.
use Rattle.std.specs.Prelude.{◌≡◌, ℕ, ◌<◌, ◌≤◌, Bool, false, is_some, List, length, slice_get, Some}
use Rattle.flat_circuit.specs.declared.instance.Instance.{Instance}
use Rattle.flat_circuit.specs.Circuit.{Circuit}
use Rattle.gate_eval.specs.Hold.{hazard}
use Rattle.fixpoint_engine.specs.Settled.{marked_in}
use Rattle.fixpoint_engine.specs.Waves.{Waves, marked_pin, pin_waves}

abbrev pub has_hazard : Circuit → Waves → Instance → Bool
has_hazard c ws j = is_some (hazard j.kind (pin_waves c ws j) (marked_pin j))

-- of the first so many instances those that have one are marked, and no other
pub record AreMarked (c : Circuit) (ws : Waves) (marks : List Bool) (n : ℕ) : Type 0 where
  pub long : length marks ≡ length c.instances
  pub each : (k : ℕ) (j : Instance) → k < n → slice_get c.instances k ≡ Some j →
      marked_in marks k ≡ has_hazard c ws j
  pub rest : (k : ℕ) → n ≤ k → marked_in marks k ≡ false
