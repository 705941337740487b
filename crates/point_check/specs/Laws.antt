-- Laws of the checks at the edges of clocks.
use Rattle.std.specs.Prelude.{◌≡◌, ℕ, ◌≤◌, None}
use Rattle.scald_base.specs.Time.{period}
use Rattle.flat_circuit.specs.declared.instance.Instance.{Instance}
use Rattle.flat_circuit.specs.Circuit.{Circuit}
use Rattle.flat_circuit.specs.declared.limits.Limits.TheVariants.{Edges}
use Rattle.fixpoint_engine.specs.Waves.{Waves}
use Rattle.point_check.specs.Faults.{limited_fault}

-- No fault goes if a setup or a hold time is longer: if there is none with the longer times,
-- there is none.
abbrev pub LongerTimesKeepFaults : Type 0
LongerTimesKeepFaults =
    (c : Circuit) (ws : Waves) (k : ℕ) (j : Instance) (setup hold longer_setup longer_hold : ℕ) →
    1 ≤ period c.header → setup ≤ longer_setup → hold ≤ longer_hold →
    limited_fault c ws k j (Edges longer_setup longer_hold) ≡ None →
    limited_fault c ws k j (Edges setup hold) ≡ None
