-- The wave of a receiving pin: its net's, late by the wire, and complemented if the pin is
-- marked so.
use Rattle.std.specs.Prelude.{◌≡◌, ℕ, ◌+◌, ◌-◌, ◌<◌, ◌≤◌, Bool, if◌then◌else◌}
use Rattle.scald_base.specs.Time.{Bounds}
use Rattle.scald_base.specs.Signal.{Signal, turned}
use Rattle.step_values.specs.declared.value.Value.{Value}
use Rattle.step_values.specs.Cell.{values}
use Rattle.skew_algebra.specs.Wave.{Wave, moved, flipped}
use Rattle.skew_algebra.specs.Permits.{Permits}

-- the wave of a pin on a net with this wave
abbrev pub pin_wave : Wave Value → Bounds → Bool → Wave Value
pin_wave net wire inverted =
    let late = moved values net wire in if inverted then flipped values late else late

-- y shows x, so many ticks later, complemented if asked, as far as the ticks from u - 1 to m - 1
abbrev pub ShowsPin : ℕ → Bool → ℕ → ℕ → Signal → Signal → Type 0
ShowsPin delay inverted u m x y =
    (t : ℕ) → u ≤ t + 1 → t < m → y t ≡ turned inverted (x (t - delay))

-- If the one wave permits a net from tick v on, the other permits each pin that shows it, by a
-- wire delay within the bounds, from that delay later on, and so from v + max on.
abbrev pub KeepsPin : Wave Value → Wave Value → Bounds → Bool → Type 0
KeepsPin net pin wire inverted =
    (n m v u delay : ℕ) (x y : Signal) → Permits values net n x v → wire.min ≤ delay →
    delay ≤ wire.max → 1 ≤ v → v + delay ≤ u → m ≤ n + delay →
    ShowsPin delay inverted u m x y → Permits values pin m y u
