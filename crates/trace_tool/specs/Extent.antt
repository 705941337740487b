-- How many ticks a run may have.
use Rattle.std.specs.Prelude.{ℕ}
use Rattle.trace_tool.specs.declared.extent.Extent.{Extent}
use Rattle.trace_tool.specs.declared.extent.Extent.TheVariants.{Short, Long}

-- the most ticks
abbrev pub most_ticks : Extent → ℕ
most_ticks Short = 4096
most_ticks Long = 1048576
