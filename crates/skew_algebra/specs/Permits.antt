-- What a wave with a skew permits a net to do, and calls that keep it.
use Rattle.std.specs.Prelude.{◌≡◌, ℕ, ◌+◌, ◌-◌, ◌<◌, ◌≤◌, true, not}
use Rattle.scald_base.specs.Signal.{Signal}
use Rattle.scald_base.specs.Time.{Bounds}
use Rattle.wave_core.specs.Cell.{Cells}
use Rattle.wave_core.specs.Slots.{earlier}
use Rattle.skew_algebra.specs.Wave.{Wave}

-- The wave permits the first n bits of a signal from tick v on: one offset serves all its steps.
pub record Permits {T : Type 0} (k : Cells T) (w : Wave T) (n : ℕ) (x : Signal)
    (v : ℕ) : Type 0 where
  pub offset : ℕ
  pub within : offset ≤ w.skew
  pub steps : (t : ℕ) → 1 ≤ t → v ≤ t → t < n →
      k.has (earlier k w.cells t offset) (x (t - 1)) (x t) ≡ true

-- what the one wave permits, the other does
abbrev pub Keeps : {T : Type 0} → Cells T → Wave T → Wave T → Type 0
Keeps k w w' = (n v : ℕ) (x : Signal) → Permits k w n x v → Permits k w' n x v

-- the same of the complement
abbrev pub KeepsFlipped : {T : Type 0} → Cells T → Wave T → Wave T → Type 0
KeepsFlipped k w w' = (n v : ℕ) (x : Signal) → Permits k w n x v → Permits k w' n (λ t. not (x t)) v

-- y shows x, so many ticks later, as far as the ticks from u - 1 to m - 1
abbrev pub Shows : ℕ → ℕ → ℕ → Signal → Signal → Type 0
Shows delay u m x y = (t : ℕ) → u ≤ t + 1 → t < m → y t ≡ x (t - delay)

-- the same of a signal that shows a permitted one later, by one delay within the bounds
abbrev pub KeepsMoved : {T : Type 0} → Cells T → Wave T → Wave T → Bounds → Type 0
KeepsMoved k w w' d =
    (n m v u delay : ℕ) (x y : Signal) → Permits k w n x v → d.min ≤ delay → delay ≤ d.max → 1 ≤ v →
    v + delay ≤ u → m ≤ n + delay →
    Shows delay u m x y → Permits k w' m y u
