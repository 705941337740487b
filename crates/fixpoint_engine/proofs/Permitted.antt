-- If the waves permit the nets of a run, those at pins permit the pins, a wire's delay later.
use Rattle.std.proofs.Common.{◌≡◌, ℕ, ◌+◌, ◌-◌, ◌<◌, ◌≤◌, List, length, refl, ap, subst, arith, slice_get, Option, Some, None}
use Rattle.scald_base.specs.Time.{period}
use Rattle.scald_base.specs.Signal.{Signal, turned}
use Rattle.vector_names.specs.declared.bits.Target.{Target}
use Rattle.vector_names.specs.declared.bits.Target.TheVariants.{Net as OnNet, Constant}
use Rattle.step_values.specs.Cell.{values}
use Rattle.skew_algebra.specs.Permits.{Permits}
use Rattle.flat_circuit.specs.declared.instance.Pin.{Pin}
use Rattle.flat_circuit.specs.declared.net.Net.{Net}
use Rattle.flat_circuit.specs.Instances.{PinExists, TargetExists}
use Rattle.flat_circuit.specs.Circuit.{Circuit, wire_in}
use Rattle.flat_circuit.specs.Run.{Run, net_signal, target_signal, pin_signal, net_wire_fits, WireFits}
use Rattle.pin_waves.proofs.Pins.{Permits_pin}
use Rattle.pin_waves.proofs.CodeSlots.{Permits_constant}
use Rattle.fixpoint_engine.specs.Waves.{Waves, target_wave, target_wire, pin_wave}
use Rattle.fixpoint_engine.specs.Interface.{PermitFront, PermitRun}
use Rattle.fixpoint_engine.proofs.Fits.{AreLong, long_target}

-- ---- the wire to a pin

wire_found : (found : Option Net) (w : ℕ) → net_wire_fits found w → ((wire_in found).min ≤ w) × (w ≤ (wire_in found).max)
wire_found None w fits = absurd fits
wire_found (Some net) w fits = fits

pub wire_within : (nets : List Net) (t : Target) (w : ℕ) → WireFits nets t w → ((target_wire nets t).min ≤ w) × (w ≤ (target_wire nets t).max)
wire_within nets (OnNet i) w fits = wire_found (slice_get nets i) w fits
wire_within nets (Constant one) w fits = (omega arith, omega arith)

-- ---- pins

pub target_permits_front : (c : Circuit) (run : Run) (n : ℕ) (ws : Waves) (t : Target) (v : ℕ) → 0 < period c.header → TargetExists (length c.nets) t →
    PermitFront c run n ws v → Permits values (target_wave c.header ws t) n (target_signal run t 0) v
target_permits_front c run n ws (OnNet i) v some exists permits =
    let same : net_signal run i ≡ (λ s. net_signal run i (s - 0)) = λ k s. net_signal run i (minus_zero s k) in
    subst (λ (x : Signal). Permits values (ws i) n x v) same (permits i exists)
  where
    minus_zero : (s : ℕ) → s ≡ s - 0
    minus_zero s = omega arith
target_permits_front c run n ws (Constant one) v some exists permits = Permits_constant c.header one n v some

pub target_permits : (c : Circuit) (run : Run) (ws : Waves) (t : Target) (v : ℕ) → 0 < period c.header → TargetExists (length c.nets) t → PermitRun c run ws v →
    Permits values (target_wave c.header ws t) run.ticks (target_signal run t 0) v
target_permits c run ws t v some exists permits = target_permits_front c run run.ticks ws t v some exists permits

pub shown : (run : Run) (t : Target) (w s : ℕ) → target_signal run t w s ≡ target_signal run t 0 (s - w)
shown run (OnNet i) w s = ap (net_signal run i) (omega arith)
shown run (Constant one) w s = refl

pub pin_permits_front : (c : Circuit) (run : Run) (n : ℕ) (ws : Waves) (p : Pin) (w v u : ℕ) → 0 < period c.header → AreLong c ws → PinExists (length c.nets) p → PermitFront c run n ws v → 1 ≤ v →
    WireFits c.nets p.target w → v + (target_wire c.nets p.target).max ≤ u →
    Permits values (pin_wave c ws p) n (pin_signal run p w) u
pin_permits_front c run n ws p w v u some long exists permits v1 wire far =
    let within = wire_within c.nets p.target w wire in
    let low : (target_wire c.nets p.target).min ≤ w = within.0 in
    let high : w ≤ (target_wire c.nets p.target).max = within.1 in
    let size = long_target c ws p.target long exists in
    Permits_pin (target_wave c.header ws p.target) (target_wire c.nets p.target) p.inverted (omega (arith, size))
    n n v u w (target_signal run p.target 0) (pin_signal run p w)
    (target_permits_front c run n ws p.target v some exists permits) low high v1 (omega (arith, high, far)) (omega arith)
    (λ t tu tm. ap (turned p.inverted) (shown run p.target w t))

pub pin_permits : (c : Circuit) (run : Run) (ws : Waves) (p : Pin) (w v u : ℕ) → 0 < period c.header → AreLong c ws → PinExists (length c.nets) p → PermitRun c run ws v → 1 ≤ v →
    WireFits c.nets p.target w → v + (target_wire c.nets p.target).max ≤ u →
    Permits values (pin_wave c ws p) run.ticks (pin_signal run p w) u
pin_permits c run ws p w v u some long exists permits v1 wire far =
    pin_permits_front c run run.ticks ws p w v u some long exists permits v1 wire far
