-- The waves of all nets, and what pins show of them.
use Rattle.std.specs.Prelude.{◌≡◌, ℕ, ◌<◌, List, [], length, map, position, slice_index_or, Option}
use Rattle.scald_base.specs.Time.{Header, Bounds, period}
use Rattle.vector_names.specs.declared.bits.Target.{Target}
use Rattle.vector_names.specs.declared.bits.Target.TheVariants.{Net as OnNet, Constant}
use Rattle.step_values.specs.declared.value.Value.{Value}
use Rattle.skew_algebra.specs.Wave.{Wave, skewed}
use Rattle.flat_circuit.specs.declared.instance.Pin.{Pin}
use Rattle.flat_circuit.specs.declared.instance.Instance.{Instance}
use Rattle.flat_circuit.specs.declared.net.Net.{Net}
use Rattle.flat_circuit.specs.Circuit.{Circuit, wire_at}
use Rattle.pin_waves.specs.Interface.{constant_wave}
use Rattle.pin_waves.specs.Pin.{pin_wave as wave_behind}

-- the wave of each net, by its number
abbrev pub Waves : Type 0
Waves = ℕ → Wave Value

-- the waves of a list, by number
abbrev pub waves_of : List (Wave Value) → Waves
waves_of waves i = slice_index_or waves i (skewed [] 0)

-- one wave for each net, of one slot for each tick of the period
pub record FitWaves (c : Circuit) (waves : List (Wave Value)) : Type 0 where
  pub each_net : length waves ≡ length c.nets
  pub each_slot : (i : ℕ) → i < length c.nets → length (waves_of waves i).cells ≡ period c.header

-- ---- at pins

-- the wave of what a pin is on, and the bounds of the wire that leads from there: a constant has
-- none
abbrev pub target_wave : Header → Waves → Target → Wave Value
target_wave h ws (OnNet i) = ws i
target_wave h ws (Constant one) = constant_wave h one

abbrev pub target_wire : List Net → Target → Bounds
target_wire nets (OnNet i) = wire_at nets i
target_wire nets (Constant one) = record { min = 0; max = 0 }

-- the wave that a pin shows
abbrev pub pin_wave : Circuit → Waves → Pin → Wave Value
pin_wave c ws p =
    wave_behind (target_wave c.header ws p.target) (target_wire c.nets p.target) p.inverted

abbrev pub pin_waves : Circuit → Waves → Instance → List (Wave Value)
pin_waves c ws j = map (pin_wave c ws) j.pins

-- the pin that is marked `!H`, if there is one
abbrev pub marked_pin : Instance → Option ℕ
marked_pin j = position (λ (p : Pin). p.hold) j.pins
