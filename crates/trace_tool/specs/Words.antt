-- The forms of words that the simulator has: `run T SEED`, then `case=K` if the run is to be in a
-- case; `vcd T SEED`, then the same, then `tick=1ns` or another length; and `judge F`. With `long`
-- last, a run that is drawn as a trace or judged may have more ticks.
use Rattle.std.specs.Prelude.{ℕ, ◌+◌, ◌-◌, ◌^◌, ◌≤◌, ◌&&◌, nat_le, Bool, List, [], ◌∷◌, length, take, drop, codes, decimal, Option, Some, None, slice_get, IfSome, Result, Ok, Err, if◌then◌else◌}
use Rattle.std.specs.Str.{bytes_eq}
use Rattle.scald_lex.specs.Bytes.{value_of}
use Rattle.trace_tool.specs.declared.words.Command.{Command}
use Rattle.trace_tool.specs.declared.words.Command.TheVariants.{Run, Judge}
use Rattle.trace_tool.specs.declared.asked.Asked.{Asked}
use Rattle.trace_tool.specs.declared.asked.Trial.{Trial}
use Rattle.trace_tool.specs.declared.asked.Format.{Format}
use Rattle.trace_tool.specs.declared.asked.Format.TheVariants.{Trace, Dump}
use Rattle.trace_tool.specs.declared.extent.Extent.{Extent}
use Rattle.trace_tool.specs.declared.extent.Extent.TheVariants.{Short, Long}
use Rattle.trace_tool.specs.declared.tick.Count.TheVariants.{One}
use Rattle.trace_tool.specs.declared.tick.Unit.TheVariants.{Nanoseconds}
use Rattle.trace_tool.specs.declared.tick.TickLength.{TickLength}
use Rattle.trace_tool.specs.Extent.{most_ticks}
use Rattle.trace_tool.specs.Tick.{tick_of}

-- cases of a drawing, and the greatest seed
abbrev pub most_cases : ℕ
most_cases = 256

abbrev pub greatest_seed : ℕ
greatest_seed = 2 ^ 64 - 1

-- what follows a front
abbrev pub behind : List ℕ → List ℕ → Option (List ℕ)
behind front word =
    if bytes_eq (take (length front) word) front then Some (drop (length front) word) else None

-- the number of these bounds whose decimal text this is
unfoldable pub number_in : ℕ → ℕ → List ℕ → Option ℕ
number_in least most digits =
    if bytes_eq digits (decimal (value_of digits))
    && (nat_le least (value_of digits) && nat_le (value_of digits) most)
    then Some (value_of digits) else None

abbrev pub case_behind : Option (List ℕ) → Option ℕ
case_behind None = None
case_behind (Some digits) = number_in 1 most_cases digits

-- the K of `case=K`
abbrev pub case_of : List ℕ → Option ℕ
case_of word = case_behind (behind (codes "case=") word)

-- no word follows those of the form; the first that did would have this number
abbrev pub alone : Command → ℕ → List (List ℕ) → Result Command ℕ
alone command place [] = Ok command
alone command place (w ∷ ws) = Err place

-- ---- `long`

abbrev pub is_long : List ℕ → Bool
is_long word = bytes_eq word (codes "long")

abbrev pub extent_by : Option (List ℕ) → Extent
extent_by None = Short
extent_by (Some word) = if is_long word then Long else Short

-- how long a run may be, by the last word
abbrev pub extent_of : List (List ℕ) → Extent
extent_of words = extent_by (slice_get words (length words - 1))

-- after the other words of the form, from this place on, there is nothing or `long`
abbrev pub at_end : Command → ℕ → List (List ℕ) → Result Command ℕ
at_end command place [] = Ok command
at_end command place (w ∷ ws) = if is_long w then alone command (place + 1) ws else Err place

-- ---- what is asked of a run

abbrev pub tick_behind : Option (List ℕ) → Option TickLength
tick_behind None = None
tick_behind (Some text) = tick_of text

-- the length of `tick=10us`
abbrev pub tick_asked : List ℕ → Option TickLength
tick_asked word = tick_behind (behind (codes "tick=") word)

abbrev pub asked : Format → ℕ → ℕ → Option ℕ → Asked
asked format ticks seed case = record { ticks = ticks; seed = seed; case = case; format = format }

abbrev pub with_tick : Asked → ℕ → Option TickLength → List (List ℕ) → Result Command ℕ
with_tick a place None others = Err place
with_tick a place (Some tick) others =
    alone (Run (asked (Dump tick) a.ticks a.seed a.case)) (place + 1) others

-- what may follow the case, by the word at this place: `long`, and of a dump the length of a tick
abbrev pub last_word : Format → Asked → ℕ → List ℕ → List (List ℕ) → Result Command ℕ
last_word Trace a place w ws = at_end (Run a) place (w ∷ ws)
last_word (Dump tick) a place w ws = with_tick a place (tick_asked w) ws

abbrev pub after_case : Asked → ℕ → List (List ℕ) → Result Command ℕ
after_case a place [] = Ok (Run a)
after_case a place (w ∷ ws) = last_word a.format a place w ws

abbrev pub with_case : Format → ℕ → ℕ → Option ℕ → List ℕ → List (List ℕ) → Result Command ℕ
with_case format ticks seed None w ws = after_case (asked format ticks seed None) 3 (w ∷ ws)
with_case format ticks seed (Some k) w ws = after_case (asked format ticks seed (Some k)) 4 ws

abbrev pub after_seed : Format → ℕ → ℕ → List (List ℕ) → Result Command ℕ
after_seed format ticks seed [] = Ok (Run (asked format ticks seed None))
after_seed format ticks seed (w ∷ ws) = with_case format ticks seed (case_of w) w ws

abbrev pub with_seed : Format → ℕ → Option ℕ → List (List ℕ) → Result Command ℕ
with_seed format ticks None others = Err 2
with_seed format ticks (Some seed) others = after_seed format ticks seed others

abbrev pub after_ticks : Format → ℕ → List (List ℕ) → Result Command ℕ
after_ticks format ticks [] = Err 2
after_ticks format ticks (w ∷ ws) = with_seed format ticks (number_in 0 greatest_seed w) ws

abbrev pub with_ticks : Format → Option ℕ → List (List ℕ) → Result Command ℕ
with_ticks format None others = Err 1
with_ticks format (Some ticks) others = after_ticks format ticks others

-- no dump is long
abbrev pub extent_asked : Format → List (List ℕ) → Extent
extent_asked Trace words = extent_of words
extent_asked (Dump tick) words = Short

abbrev pub after_run : Format → List (List ℕ) → Result Command ℕ
after_run format [] = Err 1
after_run format (w ∷ ws) = with_ticks format (number_in 1 (most_ticks (extent_asked format ws)) w) ws

-- the length of a tick if no word sets it
abbrev pub nanosecond : TickLength
nanosecond = record { count = One; unit = Nanoseconds }

abbrev pub trial : ℕ → Extent → Trial
trial from extent = record { from = from; extent = extent }

abbrev pub with_from : Extent → Option ℕ → List (List ℕ) → Result Command ℕ
with_from extent None others = Err 1
with_from extent (Some from) others = at_end (Judge (trial from extent)) 2 others

abbrev pub after_judge : List (List ℕ) → Result Command ℕ
after_judge [] = Err 1
after_judge (w ∷ ws) =
    with_from (extent_of ws) (number_in 0 (most_ticks (extent_of ws)) w) ws

-- The form that the words have. Of other words it is the number of the first with which no form
-- goes on, or the count of words if one is missing.
abbrev pub command_of : List (List ℕ) → Result Command ℕ
command_of [] = Err 0
command_of (w ∷ ws) =
    if bytes_eq w (codes "run") then after_run Trace ws
    else if bytes_eq w (codes "vcd") then after_run (Dump nanosecond) ws
    else if bytes_eq w (codes "judge") then after_judge ws
    else Err 0

-- ---- what is asked for

-- ticks, a seed and a case that there may be
abbrev pub IsWithin : Command → Type 0
IsWithin (Run a) =
    ((1 ≤ a.ticks) × (a.ticks ≤ most_ticks Long))
    × ((a.seed ≤ greatest_seed) × IfSome a.case (λ k. (1 ≤ k) × (k ≤ most_cases)))
IsWithin (Judge trial) = trial.from ≤ most_ticks trial.extent
