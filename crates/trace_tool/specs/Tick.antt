-- How long a tick is, in a text.
use Rattle.std.specs.Prelude.{ℕ, List, length, take, drop, codes, Option, Some, None, if◌then◌else◌}
use Rattle.std.specs.Str.{bytes_eq}
use Rattle.trace_tool.specs.declared.tick.Count.{Count}
use Rattle.trace_tool.specs.declared.tick.Count.TheVariants.{One, Ten, Hundred}
use Rattle.trace_tool.specs.declared.tick.Unit as unit
use Rattle.trace_tool.specs.declared.tick.Unit.TheVariants.{Seconds, Milliseconds, Microseconds, Nanoseconds, Picoseconds, Femtoseconds}
use Rattle.trace_tool.specs.declared.tick.TickLength.{TickLength}

-- ---- as it is written

abbrev pub count_text : Count → List ℕ
count_text One = codes "1"
count_text Ten = codes "10"
count_text Hundred = codes "100"

abbrev pub unit_text : unit.Unit → List ℕ
unit_text Seconds = codes "s"
unit_text Milliseconds = codes "ms"
unit_text Microseconds = codes "us"
unit_text Nanoseconds = codes "ns"
unit_text Picoseconds = codes "ps"
unit_text Femtoseconds = codes "fs"

-- ---- as it is read, without a space between the two

abbrev pub unit_of : List ℕ → Option unit.Unit
unit_of text =
    if bytes_eq text (codes "s") then Some Seconds
    else if bytes_eq text (codes "ms") then Some Milliseconds
    else if bytes_eq text (codes "us") then Some Microseconds
    else if bytes_eq text (codes "ns") then Some Nanoseconds
    else if bytes_eq text (codes "ps") then Some Picoseconds
    else if bytes_eq text (codes "fs") then Some Femtoseconds
    else None

abbrev pub counted : Count → Option unit.Unit → Option TickLength
counted count None = None
counted count (Some of) = Some (record { count = count; unit = of })

-- what follows a front
abbrev pub behind : List ℕ → List ℕ → Option (List ℕ)
behind front text =
    if bytes_eq (take (length front) text) front then Some (drop (length front) text) else None

abbrev pub from_one : Option (List ℕ) → Option TickLength
from_one None = None
from_one (Some rest) = counted One (unit_of rest)

abbrev pub from_ten : List ℕ → Option (List ℕ) → Option TickLength
from_ten text None = from_one (behind (codes "1") text)
from_ten text (Some rest) = counted Ten (unit_of rest)

abbrev pub from_hundred : List ℕ → Option (List ℕ) → Option TickLength
from_hundred text None = from_ten text (behind (codes "10") text)
from_hundred text (Some rest) = counted Hundred (unit_of rest)

-- 1, 10 or 100 and a unit; other texts are no length
abbrev pub tick_of : List ℕ → Option TickLength
tick_of text = from_hundred text (behind (codes "100") text)
