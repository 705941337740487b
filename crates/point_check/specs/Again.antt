-- What is the same for two checkers, and what is not.
use Rattle.std.specs.Prelude.{◌≡◌, ℕ, Bool, length}
use Rattle.scald_base.specs.Time.{Bounds, period}
use Rattle.step_values.specs.declared.value.Value.{Value}
use Rattle.skew_algebra.specs.Wave.{Wave}
use Rattle.flat_circuit.specs.declared.instance.Pin.{Pin}
use Rattle.flat_circuit.specs.declared.fault.Fault.{Fault}
use Rattle.flat_circuit.specs.declared.fault.Fault.TheVariants.{Point, Width, Hazard, Assertion}
use Rattle.flat_circuit.specs.Circuit.{Circuit}
use Rattle.pin_waves.specs.Pin.{pin_wave as wave_behind}
use Rattle.fixpoint_engine.specs.Waves.{Waves, pin_wave}

-- A wave of the circuit's period, after this wire and complemented or not, is what a pin shows.
pub record Shows (c : Circuit) (ws : Waves) (wave : Wave Value) (wire : Bounds) (inverted : Bool)
    (p : Pin) : Type 0 where
  pub long : length wave.cells ≡ period c.header
  pub is : wave_behind wave wire inverted ≡ pin_wave c ws p

-- the same fault of another instance; that of a net is of no instance
abbrev pub of_instance : ℕ → Fault → Fault
of_instance k (Point kind instance edge slot value) = Point kind k edge slot value
of_instance k (Width instance high start width) = Width k high start width
of_instance k (Hazard instance slot pin) = Hazard k slot pin
of_instance k (Assertion net slot value) = Assertion net slot value
