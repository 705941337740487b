-- The waves at pins have the circuit's period if those of the nets do, and are in normal form.
use Rattle.std.proofs.Common.{◌≡◌, ℕ, ◌+◌, ◌-◌, ◌<◌, Bool, true, false, cond, List, [], ◌∷◌, length, map, refl, sym, subst, ◌∙◌, arith, All, zero, suc}
use Rattle.std.proofs.lemmas.List.{length-map}
use Rattle.std.proofs.lemmas.List.Elements.{All-head, All-tail}
use Rattle.scald_base.specs.Time.{Bounds, period}
use Rattle.vector_names.specs.declared.bits.Target.{Target}
use Rattle.vector_names.specs.declared.bits.Target.TheVariants.{Net as OnNet, Constant}
use Rattle.step_values.specs.declared.value.Value.{Value}
use Rattle.step_values.specs.declared.value.Value.TheVariants.{Zero, One}
use Rattle.step_values.specs.Steps.{flip}
use Rattle.step_values.specs.Cell.{values}
use Rattle.step_values.specs.Lawful.{values_lawful}
use Rattle.wave_core.specs.Slots.{later}
use Rattle.wave_core.proofs.Slots.{length_slots}
use Rattle.skew_algebra.specs.Wave.{Wave, skewed, is_steady, joined, flipped, normal, moved, IsNormal}
use Rattle.skew_algebra.proofs.Normal.{normal_steady, normal_moving, uniform_normal, moving_normal, flipped_normal, length_normal}
use Rattle.skew_algebra.proofs.Moves.{length_later}
use Rattle.flat_circuit.specs.declared.instance.Pin.{Pin}
use Rattle.flat_circuit.specs.Circuit.{Circuit}
use Rattle.flat_circuit.specs.Instances.{PinExists, TargetExists}
use Rattle.gate_eval.specs.Instance.{wave_of_pin}
use Rattle.gate_eval.proofs.Fitting.{Fits, AllFit}
use Rattle.pin_waves.specs.Pin.{pin_wave as wave_behind}
use Rattle.pin_waves.proofs.Pins.{length_pin}
use Rattle.fixpoint_engine.specs.Waves.{Waves, target_wave, target_wire, pin_wave}

pub normal_is : (w : Wave Value) → 0 < length w.cells → IsNormal values (normal values w)
normal_is w some = by (is_steady values w.cells) refl
  where
    by : (quiet : Bool) → is_steady values w.cells ≡ quiet → IsNormal values (normal values w)
    by true q = subst (λ (r : Wave Value). IsNormal values r) (sym (normal_steady values w q)) (uniform_normal values values_lawful (length w.cells) (joined values w.cells) some)
    by false q = subst (λ (r : Wave Value). IsNormal values r) (sym (normal_moving values w q)) (moving_normal values values_lawful w some q)

pub normal_fits : (p : ℕ) (w : Wave Value) → 0 < p → length w.cells ≡ p → Fits values p (normal values w)
normal_fits p w some long = record { long = length_normal values w ∙ long; normal = normal_is w (omega arith) }

flipped_fits : (p : ℕ) (w : Wave Value) → Fits values p w → Fits values p (flipped values w)
flipped_fits p w fits = record { long = length-map w.cells flip ∙ fits.long; normal = flipped_normal values values_lawful w fits.normal }

moved_fits : (p : ℕ) (w : Wave Value) (d : Bounds) → 0 < p → length w.cells ≡ p → Fits values p (moved values w d)
unfolding moved
moved_fits p w d some long = normal_fits p (skewed (later values w.cells d.min) (w.skew + (d.max - d.min))) some (length_later values w.cells d.min ∙ long)

behind_fits : (p : ℕ) (w : Wave Value) (wire : Bounds) (inverted : Bool) → 0 < p → length w.cells ≡ p → Fits values p (wave_behind w wire inverted)
behind_fits p w wire true some long = flipped_fits p (moved values w wire) (moved_fits p w wire some long)
behind_fits p w wire false some long = moved_fits p w wire some long

-- each net's wave has the circuit's period
abbrev pub AreLong : Circuit → Waves → Type 0
AreLong c ws = (i : ℕ) → i < length c.nets → length (ws i).cells ≡ period c.header

pub long_target : (c : Circuit) (ws : Waves) (t : Target) → AreLong c ws → TargetExists (length c.nets) t → length (target_wave c.header ws t).cells ≡ period c.header
long_target c ws (OnNet i) long exists = long i exists
long_target c ws (Constant one) long exists = length_slots (period c.header) (λ p. cond one One Zero)

pub long_pin : (c : Circuit) (ws : Waves) (p : Pin) → AreLong c ws → PinExists (length c.nets) p → length (pin_wave c ws p).cells ≡ period c.header
long_pin c ws p long exists =
    length_pin (target_wave c.header ws p.target) (target_wire c.nets p.target) p.inverted ∙ long_target c ws p.target long exists

pub long_pin_at : (c : Circuit) (ws : Waves) (ps : List Pin) (i : ℕ) → AreLong c ws → All (PinExists (length c.nets)) ps → i < length ps →
    length (wave_of_pin (map (pin_wave c ws) ps) i).cells ≡ period c.header
long_pin_at c ws [] i long exist below = absurd (omega arith)
long_pin_at c ws (p ∷ ps) zero long exist below = long_pin c ws p long (All-head (PinExists (length c.nets)) p ps exist)
long_pin_at c ws (p ∷ ps) (suc i) long exist below = long_pin_at c ws ps i long (All-tail (PinExists (length c.nets)) p ps exist) (omega arith)

pub pin_fits : (c : Circuit) (ws : Waves) (p : Pin) → 0 < period c.header → AreLong c ws → PinExists (length c.nets) p → Fits values (period c.header) (pin_wave c ws p)
pin_fits c ws p some fit exists =
    behind_fits (period c.header) (target_wave c.header ws p.target) (target_wire c.nets p.target) p.inverted some (long_target c ws p.target fit exists)

pub pins_fit : (c : Circuit) (ws : Waves) (ps : List Pin) → 0 < period c.header → AreLong c ws → All (PinExists (length c.nets)) ps →
    AllFit values (period c.header) (map (pin_wave c ws) ps)
pins_fit c ws [] some fit exist = tt
pins_fit c ws (p ∷ ps) some fit exist = (
  pin_fits c ws p some fit (All-head (PinExists (length c.nets)) p ps exist),
  pins_fit c ws ps some fit (All-tail (PinExists (length c.nets)) p ps exist),
)
