-- What the waves of several pins permit their signals to do.
use Rattle.std.specs.Prelude.{◌≡◌, ℕ, ◌-◌, true, List}
use Rattle.std.specs.List.{AllZip}
use Rattle.scald_base.specs.Signal.{Signal}
use Rattle.wave_core.specs.Cell.{Cells}
use Rattle.skew_algebra.specs.Wave.{Wave}
use Rattle.skew_algebra.specs.Permits.{Permits}

-- each wave permits its pin's signal, n ticks long, from tick v on
abbrev pub AllPermit : {T : Type 0} → Cells T → List (Wave T) → ℕ → List Signal → ℕ → Type 0
AllPermit k waves n signals v = AllZip (λ w x. Permits k w n x v) waves signals

-- each cell permits its signal's step at tick t
abbrev pub AllHave : {T : Type 0} → Cells T → List T → List Signal → ℕ → Type 0
AllHave k cells signals t =
    AllZip (λ c (x : Signal). k.has c (x (t - 1)) (x t) ≡ true) cells signals
