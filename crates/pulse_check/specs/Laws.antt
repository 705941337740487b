-- Laws of the checks of widths.
use Rattle.std.specs.Prelude.{◌≡◌, ℕ, ◌≤◌, Bool, None}
use Rattle.flat_circuit.specs.declared.instance.Instance.{Instance}
use Rattle.flat_circuit.specs.Circuit.{Circuit}
use Rattle.fixpoint_engine.specs.Waves.{Waves}
use Rattle.pulse_check.specs.Faults.{limited_fault}

-- No fault goes if a greater width is asked for: if there is none with the greater one, there
-- is none.
abbrev pub GreaterWidthsKeepFaults : Type 0
GreaterWidthsKeepFaults =
    (c : Circuit) (ws : Waves) (k : ℕ) (j : Instance) (level : Bool) (width greater : ℕ) →
    width ≤ greater →
    limited_fault c ws k j level greater ≡ None → limited_fault c ws k j level width ≡ None
