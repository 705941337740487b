-- Values as the cells of waves.
use Rattle.std.specs.Prelude.{Bool, true, false}
use Rattle.wave_core.specs.Cell.{Cells}
use Rattle.step_values.specs.declared.value.Value.{Value}
use Rattle.step_values.specs.declared.value.Value.TheVariants.{Zero, One, S, C, R, F, U}
use Rattle.step_values.specs.Steps.{has, join, flip, is_quiet}

-- whether two values are one
abbrev pub same : Value → Value → Bool
same Zero Zero = true
same One One = true
same S S = true
same C C = true
same R R = true
same F F = true
same U U = true
same v w = false

-- what the cells of a wave of values mean
abbrev pub values : Cells Value
values = record { has = has; join = join; flip = flip; quiet = is_quiet; same = same; any = U }
