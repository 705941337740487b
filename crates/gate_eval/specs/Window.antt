-- How a change function's slots are found: the windows of pins of one skew by one fold, all pins'
-- windows joined, and of the joins only whether they are quiet and whether they are known.
use Rattle.std.specs.Prelude.{◌≡◌, ℕ, ◌+◌, ◌-◌, ◌<◌, min, List, length, map, fold, if◌then◌else◌}
use Rattle.scald_base.specs.Time.{Bounds}
use Rattle.wave_core.specs.Slots.{later, fold_at}
use Rattle.step_values.specs.declared.value.Value.{Value}
use Rattle.step_values.specs.declared.value.Value.TheVariants.{S, C, U}
use Rattle.step_values.specs.Steps.{is_quiet, join}
use Rattle.step_values.specs.Cell.{values}
use Rattle.skew_algebra.specs.Wave.{Wave, cell_at}
use Rattle.gate_eval.specs.Change.{is_known}

-- what a pin may hold at the slots p - d.max to p - d.min
abbrev pub window : Wave Value → Bounds → ℕ → Value
window w d p =
    fold_at values (later values w.cells d.min)
    (min (w.skew + (d.max - d.min)) (length w.cells - 1)) p

-- what some pin may hold there
abbrev pub seen_at : List (Wave Value) → Bounds → ℕ → Value
seen_at waves d p = fold join S (map (λ w. window w d p) waves)

-- what is seen of some pins, from the joined windows of the first ones and the joined waves of the
-- last
abbrev pub found_at : List Value → Wave Value → Bounds → ℕ → Value
found_at seen last d p = join (cell_at values seen p) (window last d p)

-- one pin more is counted in
pub record Counts (pin : Wave Value) (d : Bounds) (seen : List Value) (last : Wave Value)
    (seen' : List Value) (last' : Wave Value) : Type 0 where
  pub seen_long : length seen' ≡ length seen
  pub last_long : length last'.cells ≡ length last.cells
  pub short : last'.skew < 4096
  pub found : (p : ℕ) → p < length seen →
      found_at seen' last' d p ≡ join (found_at seen last d p) (window pin d p)

abbrev pub change_of : Value → Value
change_of v = if is_quiet v then S else if is_known v then C else U
