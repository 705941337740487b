-- The waves at the pins of an instance have one period, that of the circuit.
use Rattle.std.proofs.Common.{◌≡◌, ℕ, ◌<◌, All, List, [], ◌∷◌, length, sym, subst, arith}
use Rattle.std.proofs.lemmas.List.{length-map}
use Rattle.std.proofs.lemmas.List.Elements.{All-nil, All-cons}
use Rattle.scald_base.specs.Time.{period}
use Rattle.step_values.specs.declared.value.Value.{Value}
use Rattle.step_values.specs.Cell.{values}
use Rattle.skew_algebra.specs.Wave.{Wave}
use Rattle.flat_circuit.specs.declared.instance.Instance.{Instance}
use Rattle.flat_circuit.specs.Instances.{InstanceFits}
use Rattle.flat_circuit.specs.Circuit.{Circuit}
use Rattle.gate_eval.specs.Meeting.{period_of, HaveOnePeriod}
use Rattle.gate_eval.proofs.Fitting.{AllFit}
use Rattle.gate_eval.proofs.Chosen.{some_pins}
use Rattle.fixpoint_engine.specs.Waves.{Waves, pin_wave, pin_waves}
use Rattle.fixpoint_engine.proofs.Fits.{AreLong, pins_fit}

period_is : (p : ℕ) (waves : List (Wave Value)) → AllFit values p waves → 0 < length waves → period_of waves ≡ p
period_is p [] fits some = absurd (omega arith)
period_is p (w ∷ waves) fits some = fits.0.long

pub length_pins : (c : Circuit) (ws : Waves) (j : Instance) → length (pin_waves c ws j) ≡ length j.pins
length_pins c ws j = length-map j.pins (pin_wave c ws)

pub period_of_pins : (c : Circuit) (ws : Waves) (j : Instance) → 0 < period c.header → AreLong c ws →
    InstanceFits c.header (length c.nets) j → period_of (pin_waves c ws j) ≡ period c.header
period_of_pins c ws j some fit fits =
    let pins : 0 < length j.pins = some_pins j.kind (length j.pins) fits.pins.least in
    period_is (period c.header) (pin_waves c ws j) (pins_fit c ws j.pins some fit fits.exists.reads)
    (let long = length_pins c ws j in omega (arith, long))

pub pins_fit_period : (c : Circuit) (ws : Waves) (j : Instance) → 0 < period c.header → AreLong c ws →
    InstanceFits c.header (length c.nets) j → AllFit values (period_of (pin_waves c ws j)) (pin_waves c ws j)
pins_fit_period c ws j some fit fits =
    subst (λ (p : ℕ). AllFit values p (pin_waves c ws j)) (sym (period_of_pins c ws j some fit fits))
    (pins_fit c ws j.pins some fit fits.exists.reads)

-- ---- by what code knows

all_long : (p : ℕ) (waves : List (Wave Value)) → AllFit values p waves → All (λ w. length w.cells ≡ p) waves
all_long p [] fits = All-nil (λ (w : Wave Value). length w.cells ≡ p)
all_long p (w ∷ waves) fits =
    All-cons (λ (v : Wave Value). length v.cells ≡ p) w waves fits.0.long (all_long p waves fits.1)

pub pins_have_one_period : (c : Circuit) (ws : Waves) (j : Instance) → 0 < period c.header → AreLong c ws →
    InstanceFits c.header (length c.nets) j → HaveOnePeriod (pin_waves c ws j)
pins_have_one_period c ws j some fit fits =
    all_long (period_of (pin_waves c ws j)) (pin_waves c ws j) (pins_fit_period c ws j some fit fits)
