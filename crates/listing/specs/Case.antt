-- The lines of one case.
use Rattle.std.specs.Prelude.{ℕ, Bool, true, false, List, [], ◌∷◌, ◌++◌, codes, decimal, if◌then◌else◌}
use Rattle.step_values.specs.declared.value.Value.{Value}
use Rattle.skew_algebra.specs.Wave.{Wave}
use Rattle.flat_circuit.specs.declared.fault.Fault.{Fault}
use Rattle.flat_circuit.specs.Circuit.{Circuit}
use Rattle.listing.specs.declared.case.Mode.{Mode}
use Rattle.listing.specs.declared.case.Mode.TheVariants.{Waves, Faults}
use Rattle.listing.specs.Text.{line}
use Rattle.listing.specs.Wave.{wave_lines}
use Rattle.listing.specs.Fault.{fault_lines}

-- its number, the rounds of the base, its own, and the tick from which on its waves hold
unfoldable pub case_line : ℕ → ℕ → ℕ → ℕ → List ℕ
case_line number base rounds tick = line (
    codes "CASE " ∷ decimal number ∷ codes " BASE " ∷ decimal base ∷ codes " ROUNDS "
    ∷ decimal rounds ∷ codes " T " ∷ decimal tick ∷ [])

abbrev pub shows_waves : Mode → Bool
shows_waves Faults = false
shows_waves mode = true

abbrev pub shows_faults : Mode → Bool
shows_faults Waves = false
shows_faults mode = true

abbrev pub shown_waves : Circuit → Mode → (ℕ → Wave Value) → List ℕ
shown_waves c mode waves = if shows_waves mode then wave_lines c waves else []

abbrev pub shown_faults : Circuit → Mode → List Fault → List ℕ
shown_faults c mode faults = if shows_faults mode then fault_lines c faults else []

-- the case's own line always, and what the mode shows of it
abbrev pub case_lines : Circuit → Mode → ℕ → ℕ → ℕ → ℕ → (ℕ → Wave Value) → List Fault → List ℕ
case_lines c mode number base rounds tick waves faults =
    case_line number base rounds tick ++ shown_waves c mode waves ++ shown_faults c mode faults
