-- The waves of a settled case have the period.
use Rattle.std.proofs.Common.{◌≡◌, ℕ, ◌<◌, Bool, true, false, List, length, ap, ◌∙◌, if◌then◌else◌, Option, Some, None}
use Rattle.scald_base.specs.Time.{period}
use Rattle.wave_core.proofs.Slots.{length_slots}
use Rattle.step_values.specs.declared.value.Value.{Value}
use Rattle.step_values.specs.declared.value.Value.TheVariants.{Zero, One}
use Rattle.skew_algebra.specs.Wave.{Wave}
use Rattle.flat_circuit.specs.declared.case.CaseValue.{CaseValue}
use Rattle.flat_circuit.specs.Circuit.{Circuit, IsCircuit}
use Rattle.flat_circuit.specs.Alike.{value_in}
use Rattle.fixpoint_engine.specs.Waves.{Waves}
use Rattle.fixpoint_engine.proofs.Fits.{AreLong}
use Rattle.fixpoint_engine.specs.Start.{base_start, is_driven}
use Rattle.fixpoint_engine.proofs.Sound.{round_long}
use Rattle.case_analysis.specs.Base.{base_round}
use Rattle.case_analysis.specs.Case.{IsCase, case_active, case_start, case_wave}
use Rattle.case_analysis.proofs.Start.{length_unknown, start_long}

pub settled_is_long : (c : Circuit) (limit base r : ℕ) (values : List CaseValue) (cone : ℕ → Bool) (ws : Waves) → 0 < period c.header → IsCircuit c →
    IsCase c values cone (base_round c base) limit r ws → AreLong c ws
settled_is_long c limit base r values cone ws some known is_case i below =
    ap (λ (w : Wave Value). length w.cells) (is_case.waves i)
    ∙ round_long c (case_active c cone) (case_start c values cone (base_round c base)) r some known (λ j exists.
    started (value_in values j) (cone j) (base_round c base j) (round_long c (is_driven c) (base_start c) base some known (start_long c) j exists)) i below
  where
    started : (value : Option Bool) (reached : Bool) (before : Wave Value) → length before.cells ≡ period c.header →
        length (case_wave c.header value reached before).cells ≡ period c.header
    started (Some one) reached before long = length_slots (period c.header) (λ p. if one then One else Zero)
    started None true before long = length_unknown c.header
    started None false before long = long
