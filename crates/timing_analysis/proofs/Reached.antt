-- If waves permit the nets of a run from a tick on, those at pins permit the pins as much later as instances look back;
-- so nothing is broken from there on by what has no fault.
use Rattle.std.proofs.Common.{◌≡◌, ℕ, zero, suc, ◌+◌, ◌<◌, ◌≤◌, max, false, List, [], ◌∷◌, length, map, arith, All, slice_get, Some}
use Rattle.std.specs.Prelude.{slice_index_or}
use Rattle.std.specs.List.{list_any}
use Rattle.std.proofs.lemmas.List.Elements.{All-head, All-tail}
use Rattle.std.proofs.lemmas.Option.{slice_get_within}
use Rattle.scald_base.specs.Time.{period}
use Rattle.step_values.specs.Cell.{values}
use Rattle.skew_algebra.specs.Permits.{Permits}
use Rattle.skew_algebra.proofs.Moves.{Permits_after}
use Rattle.flat_circuit.specs.declared.instance.Pin.{Pin}
use Rattle.flat_circuit.specs.declared.instance.Instance.{Instance}
use Rattle.flat_circuit.specs.declared.net.Net.{Net}
use Rattle.flat_circuit.specs.declared.fault.Fault.{Fault}
use Rattle.flat_circuit.specs.Instances.{PinExists}
use Rattle.flat_circuit.specs.Circuit.{Circuit, IsCircuit}
use Rattle.element_kinds.specs.Equation.{nth_signal}
use Rattle.flat_circuit.specs.Run.{Run, IsRun, net_signal, pin_signals, WiresFit}
use Rattle.gate_eval.specs.Instance.{wave_of_pin}
use Rattle.fixpoint_engine.specs.Waves.{Waves, pin_wave}
use Rattle.fixpoint_engine.specs.Interface.{PermitRun}
use Rattle.fixpoint_engine.specs.Pins.{PinsPermitAt}
use Rattle.flat_circuit.proofs.Numbered.{fits_of}
use Rattle.fixpoint_engine.proofs.Permitted.{pin_permits}
use Rattle.fixpoint_engine.proofs.Fits.{AreLong}
use Rattle.fixpoint_engine.specs.Reach.{greatest_wire, farthest, reach}
use Rattle.point_check.specs.Faults.{is_of_instance, is_of_net}
use Rattle.point_check.specs.Break.{BreaksInstance, BreaksNet}
use Rattle.point_check.specs.Sound.{KeepsConstraints}

pins_permit : (c : Circuit) (run : Run) (ws : Waves) (ps : List Pin) (wires : List ℕ) (v start i : ℕ) →
    0 < period c.header → AreLong c ws → All (PinExists (length c.nets)) ps → PermitRun c run ws v → 1 ≤ v →
    WiresFit c.nets ps wires → v + greatest_wire c.nets ps ≤ start → i < length ps →
    Permits values (wave_of_pin (map (pin_wave c ws) ps) i) run.ticks (nth_signal (pin_signals run ps wires) i) (max start (slice_index_or wires i 0 + 1))
pins_permit c run ws [] wires v start i some long exist permits v1 fits far below = absurd (omega arith)
pins_permit c run ws (p ∷ ps) [] v start i some long exist permits v1 fits far below = absurd fits
pins_permit c run ws (p ∷ ps) (w ∷ wires) v start zero some long exist permits v1 fits far below =
    pin_permits c run ws p w v (max start (w + 1)) some long (All-head (PinExists (length c.nets)) p ps exist) permits v1 fits.0 (omega arith)
pins_permit c run ws (p ∷ ps) (w ∷ wires) v start (suc i) some long exist permits v1 fits far below =
    pins_permit c run ws ps wires v start i some long (All-tail (PinExists (length c.nets)) p ps exist) permits v1 fits.1 (omega arith) (omega arith)

looks_back : (nets : List Net) (js : List Instance) (k : ℕ) (j : Instance) → slice_get js k ≡ Some j → greatest_wire nets j.pins ≤ farthest nets js
looks_back nets [] k j is = cc
looks_back nets (first ∷ js) zero j is = let same : first ≡ j = cc in rw same (omega arith)
looks_back nets (first ∷ js) (suc k) j is = omega (arith, looks_back nets js k j is)

-- the pins of an instance, from the greatest delay of its wires on
pub pins_permit_from : (c : Circuit) (run : Run) (ws : Waves) (k v start : ℕ) → 0 < period c.header → IsCircuit c → AreLong c ws → IsRun c run → PermitRun c run ws v → 1 ≤ v →
    ((j : Instance) → slice_get c.instances k ≡ Some j → v + greatest_wire c.nets j.pins ≤ start) → PinsPermitAt c ws run k start
pins_permit_from c run ws k v start some known long isrun permits v1 far j choice at chosen i below =
    pins_permit c run ws j.pins choice.wires v start i some long (fits_of c k j known at).exists.reads permits v1 (isrun.at k j choice at chosen).wires (far j at) below

-- the pins of each instance, from where the next round would permit the nets, but for one tick
pub all_pins_permit : (c : Circuit) (run : Run) (ws : Waves) (k v start : ℕ) → 0 < period c.header → IsCircuit c → AreLong c ws → IsRun c run → PermitRun c run ws v → 1 ≤ v →
    v + reach c ≤ start + 1 → PinsPermitAt c ws run k start
all_pins_permit c run ws k v start some known long isrun permits v1 far =
    pins_permit_from c run ws k v start some known long isrun permits v1 (λ j at. let back = looks_back c.nets c.instances k j at in omega (arith, back, far))

-- ---- nothing is broken from there on

module _ (c : Circuit) (run : Run) (ws : Waves) (faults : List Fault) (v start : ℕ) (some : 0 < period c.header) (known : IsCircuit c) (long : AreLong c ws)
    (keeps : KeepsConstraints c ws faults) (isrun : IsRun c run) (permits : PermitRun c run ws v) (v1 : 1 ≤ v) (far : v + reach c ≤ start + 1) where
  pub no_instance_breaks : (k : ℕ) → list_any (is_of_instance k) faults ≡ false → ¬ BreaksInstance c run k start
  no_instance_breaks k none = keeps.instances run k start none (all_pins_permit c run ws k v start some known long isrun permits v1 far)

  pub no_net_breaks : (i : ℕ) → list_any (is_of_net i) faults ≡ false → ¬ BreaksNet c run i start
  no_net_breaks i none b =
      keeps.nets run i start none
      (Permits_after values (ws i) run.ticks v start (net_signal run i) (omega (arith, far)) (permits i (slice_get_within c.nets i b.net b.at.net_is))) b
