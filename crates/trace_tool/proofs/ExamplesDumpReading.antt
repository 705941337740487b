-- Codes, lengths of ticks, and what a reader takes variables to be, computed.
use Rattle.std.proofs.Common.{◌≡◌, ℕ, true, false, List, [], ◌∷◌, map, Some, None, codes, refl}
use Rattle.trace_tool.specs.declared.tick.Count.{Count}
use Rattle.trace_tool.specs.declared.tick.Count.TheVariants.{One, Ten, Hundred}
use Rattle.trace_tool.specs.declared.tick.Unit.{Unit}
use Rattle.trace_tool.specs.declared.tick.Unit.TheVariants.{Seconds, Milliseconds, Microseconds, Nanoseconds, Picoseconds, Femtoseconds}
use Rattle.trace_tool.specs.declared.tick.TickLength.{TickLength}
use Rattle.trace_tool.specs.Tick.{tick_of}
use Rattle.trace_tool.specs.Variable.{code_of}
use Rattle.trace_tool.specs.Change.{Command, End, Start, Time, Value}
use Rattle.trace_tool.specs.DumpReading.{commands_in, value_at}

-- ---- codes: the first and the last of one, two and three digits

codes_are : map code_of (0 ∷ 1 ∷ 93 ∷ 94 ∷ 95 ∷ 187 ∷ 188 ∷ 8929 ∷ 8930 ∷ [])
    ≡ codes "!" ∷ codes "\"" ∷ codes "~" ∷ codes "!!" ∷ codes "\"!" ∷ codes "~!" ∷ codes "!\"" ∷ codes "~~" ∷ codes "!!!" ∷ []
unfolding code_of
codes_are = refl

-- ---- lengths of ticks

abbrev of : Count → Unit → TickLength
of count unit = record { count = count; unit = unit }

lengths : map tick_of (codes "1s" ∷ codes "10ms" ∷ codes "100us" ∷ codes "1ns" ∷ codes "10ps" ∷ codes "100fs" ∷ [])
    ≡ Some (of One Seconds) ∷ Some (of Ten Milliseconds) ∷ Some (of Hundred Microseconds) ∷ Some (of One Nanoseconds)
    ∷ Some (of Ten Picoseconds) ∷ Some (of Hundred Femtoseconds) ∷ []
lengths = refl

no_lengths : map tick_of (codes "" ∷ codes "1" ∷ codes "ns" ∷ codes "1 ns" ∷ codes "2ns" ∷ codes "1000ns" ∷ codes "01ns" ∷ codes "1NS" ∷ codes "10m" ∷ [])
    ≡ None ∷ None ∷ None ∷ None ∷ None ∷ None ∷ None ∷ None ∷ None ∷ []
no_lengths = refl

-- ---- a reader

abbrev bytes : List ℕ
bytes = codes "#0\n$dumpvars\n0!\nb10 \"\n$end\n#3\nb11 \"\n#12\n"

abbrev commands : List Command
commands =
    Time 0 ∷ Start ∷ Value (codes "!") (false ∷ []) ∷ Value (codes "\"") (true ∷ false ∷ []) ∷ End
    ∷ Time 3 ∷ Value (codes "\"") (true ∷ true ∷ []) ∷ Time 12 ∷ []

read : commands_in bytes ≡ commands
read = refl

-- what has changed before a tick stays, and what changes after it is not known at it
values : map (λ (t : ℕ). value_at (codes "\"") t commands []) (0 ∷ 2 ∷ 3 ∷ 11 ∷ [])
    ≡ (true ∷ false ∷ []) ∷ (true ∷ false ∷ []) ∷ (true ∷ true ∷ []) ∷ (true ∷ true ∷ []) ∷ []
values = refl

others : value_at (codes "!") 11 commands [] ≡ false ∷ []
others = refl

of_no_variable : value_at (codes "#") 11 commands [] ≡ []
of_no_variable = refl
