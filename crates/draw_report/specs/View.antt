-- The part of the time line that a picture shows. Lengths are tenths of a pixel.
use Rattle.std.specs.Prelude.{ℕ, ◌+◌, ◌-◌, ◌*◌, ◌/◌, ◌^◌, ◌<◌, ◌≤◌, ◌==◌, max, if◌then◌else◌}
use Rattle.draw_report.specs.declared.view.View.{View}

-- It has slots, periods and units have ticks, and slots are few enough to be counted.
pub record IsView (v : View) : Type 0 where
  pub slots : 1 ≤ v.count
  pub periods : 1 ≤ v.period
  pub units : 1 ≤ v.unit
  pub few : v.first + v.count < 2 ^ 30
  pub near : v.moved < 2 ^ 30

-- how wide a slot is: the plot is as wide as fits into 9,600, or wider where it has more slots
abbrev pub scale : View → ℕ
scale v = if v.count == 0 then 9600 else max 1 (9600 / v.count)

abbrev pub plot : View → ℕ
plot v = scale v * v.count

-- where a slot begins
abbrev pub x_of : View → ℕ → ℕ
x_of v slot = scale v * (slot - v.first)

-- where the line of a tick stands: at the end of its slot
abbrev pub line_x : View → ℕ → ℕ
line_x v tick = x_of v (tick + 1)

-- the slot after the last
abbrev pub after_last : View → ℕ
after_last v = v.first + v.count
