-- Where the rounds of a circuit begin, which nets are active then, and how many rounds are tried
-- if nothing is asked.
use Rattle.std.specs.Prelude.{ℕ, ◌+◌, ◌*◌, Bool, [], is_some, slice_get, Option, Some, None}
use Rattle.scald_base.specs.Time.{Header, period}
use Rattle.step_values.specs.declared.value.Value.{Value}
use Rattle.step_values.specs.declared.value.Value.TheVariants.{U}
use Rattle.wave_core.specs.Slots.{slots}
use Rattle.skew_algebra.specs.Wave.{Wave, skewed}
use Rattle.flat_circuit.specs.declared.net.Net.{Net}
use Rattle.flat_circuit.specs.Instances.{outputs}
use Rattle.flat_circuit.specs.Circuit.{Circuit, driver_at}
use Rattle.pin_waves.specs.Interface.{interface_wave}
use Rattle.fixpoint_engine.specs.Waves.{Waves}

-- nothing is known in any slot
abbrev pub unknown_wave : Header → Wave Value
unknown_wave h = skewed (slots (period h) (λ p. U)) 0

-- An undriven net has the wave of its assertion, and nothing is known of a driven one. Past the
-- last net there is no wave.
abbrev pub start_in : Header → Option Net → Wave Value
start_in h None = skewed [] 0
start_in h (Some n) = elim n.driver [ None ↦ interface_wave h n.spec | Some k ↦ unknown_wave h ]

abbrev pub base_start : Circuit → Waves
base_start c i = start_in c.header (slice_get c.nets i)

-- all driven nets are active
abbrev pub is_driven : Circuit → ℕ → Bool
is_driven c i = is_some (driver_at c.nets i)

-- The most rounds if none are asked: one for each instance with an output, and more by the
-- period, since what holds round a loop may pass through every slot.
abbrev pub default_limit : Circuit → ℕ
default_limit c = outputs c.instances + 4 * period c.header + 16
