-- The forms of words that the program has: `verify`, then `waves` or `faults` if one is asked
-- for alone, then `rounds=N` if the rounds are to be so many at most; `format`; `upgrade`; and
-- `bench N`.
use Rattle.std.specs.Prelude.{ℕ, ◌+◌, ◌≤◌, Bool, true, false, List, [], ◌∷◌, codes, Option, Some, None, IfSome, Result, Ok, Err, if◌then◌else◌, ⊤}
use Rattle.std.specs.Str.{bytes_eq}
use Rattle.program_call.specs.Program as program
use Rattle.program_call.specs.Numbers.{most_rounds, number_in, rounds_of}
use Rattle.listing.specs.declared.case.Mode.{Mode}
use Rattle.listing.specs.declared.case.Mode.TheVariants.{Full, Waves, Faults}
use Rattle.scald_tool.specs.declared.words.Command.{Command}
use Rattle.scald_tool.specs.declared.words.Command.TheVariants.{Verify, Format, Upgrade, Bench}

-- the most sections that a generated drawing may have
abbrev pub most_sections : ℕ
most_sections = 200

abbrev pub mode_of : List ℕ → Option Mode
mode_of word =
    if bytes_eq word (codes "waves") then Some Waves
    else (if bytes_eq word (codes "faults") then Some Faults else None)

-- no word follows those of the form; the first that did would have this number
abbrev pub alone : Command → ℕ → List (List ℕ) → Result Command ℕ
alone command place [] = Ok command
alone command place (w ∷ ws) = Err place

abbrev pub with_limit : Mode → ℕ → Option ℕ → List (List ℕ) → Result Command ℕ
with_limit mode place None others = Err place
with_limit mode place (Some n) others = alone (Verify mode (Some n)) (place + 1) others

-- the words from this number on, if a mode is known
abbrev pub behind_mode : Mode → ℕ → List (List ℕ) → Result Command ℕ
behind_mode mode place [] = Ok (Verify mode None)
behind_mode mode place (w ∷ ws) = with_limit mode place (rounds_of w) ws

abbrev pub from_mode : Option Mode → List ℕ → List (List ℕ) → Result Command ℕ
from_mode (Some mode) w ws = behind_mode mode 2 ws
from_mode None w ws = behind_mode Full 1 (w ∷ ws)

abbrev pub behind_verify : List (List ℕ) → Result Command ℕ
behind_verify [] = Ok (Verify Full None)
behind_verify (w ∷ ws) = from_mode (mode_of w) w ws

abbrev pub with_sections : Option ℕ → List (List ℕ) → Result Command ℕ
with_sections None others = Err 1
with_sections (Some n) others = alone (Bench n) 2 others

abbrev pub behind_bench : List (List ℕ) → Result Command ℕ
behind_bench [] = Err 1
behind_bench (w ∷ ws) = with_sections (number_in most_sections w) ws

-- The form that the words have. Of other words it is the number of the first with which no form
-- goes on, or the count of words if one is missing.
abbrev pub command_of : List (List ℕ) → Result Command ℕ
command_of [] = Err 0
command_of (w ∷ ws) =
    if bytes_eq w (codes "verify") then behind_verify ws
    else if bytes_eq w (codes "format") then alone Format 1 ws
    else if bytes_eq w (codes "upgrade") then alone Upgrade 1 ws
    else if bytes_eq w (codes "bench") then behind_bench ws
    else Err 0

-- ---- what is asked for

-- no more rounds or sections are asked for than may be
abbrev pub IsWithin : Command → Type 0
IsWithin (Verify mode rounds) = IfSome rounds (λ limit. limit ≤ most_rounds)
IsWithin Format = ⊤
IsWithin Upgrade = ⊤
IsWithin (Bench n) = (1 ≤ n) × (n ≤ most_sections)

-- the form reads the source
abbrev pub reads : Command → Bool
reads (Verify mode rounds) = true
reads Format = true
reads Upgrade = true
reads (Bench n) = false

-- the words are of a form that reads
abbrev pub are_reading : Result Command ℕ → Bool
are_reading = program.are_reading reads
